-- The network that is handed over beside a refusal is the empty one.
-- Assumes nothing.
use Rattle.std.proofs.Common.{◌≡◌, ℕ, refl, sym, ◌∙◌, arith}
use Rattle.std.proofs.Math.Option.{Option, none, some}
use Rattle.std.specs.Prelude.{[]}
use Rattle.lfa.specs.Network.{Network}
use Rattle.lfa.specs.File.{Bytes}
use Rattle.lfa.specs.Question.{loading}
use Rattle.lfa.specs.Refusal.{FileRow, Decided, decided, file_refusal, in_file}
use Rattle.lfa.specs.Answer.{accepted, refusal, answer_to, network_loaded}
use Rattle.lfa.proofs.Laws.Turned.{load_answer, load_answer_lem}
use Rattle.network_file.specs.declared.Fault.{Fault}
use Rattle.network_file.specs.Load.{fault_row, fault_of, answer_of}

abbrev nothing : Network
nothing = record { routers = 0; links = []; prefixes = [] }

-- a refusal does not accept
never : (d : Decided FileRow) → refusal (in_file d) ≡ accepted → ⊥
unfolding refusal in_file
never (decided r v) p = let z : ◌≡◌ {A = ℕ} 0 1 = cc in omega arith

pub refused_empty : (b : Bytes) (f : Fault) → fault_of f ≡ answer_to (loading b) → nothing ≡ network_loaded b
unfolding network_loaded answer_of fault_of load_answer
refused_empty b f e = go (file_refusal b) refl (e ∙ load_answer_lem b)
  where
    go : (o : Option (Decided FileRow)) → file_refusal b ≡ o → refusal (in_file (fault_row f)) ≡ load_answer o → nothing ≡ network_loaded b
    go none p q = absurd (never (fault_row f) q)
    go (some d) p q = sym (rw (p, network_loaded))
