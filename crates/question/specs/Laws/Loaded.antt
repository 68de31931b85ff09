-- What the repair part knows of a file from the file part's answer: its refusal turns every question away, and the network of an
-- accepted file is within the limits and stands in the columns.
-- Assumes nothing.
use Rattle.std.specs.Prelude.{ℕ, ◌<◌, ◌≡◌, get_or, Result, Ok}
use Rattle.std.proofs.Common.{sym, ◌∙◌}
use Rattle.std.proofs.Math.Path.{ap}
use Rattle.lfa.specs.File.{Bytes, byte_at, routers_of, links_of, prefixes_of, network_of}
use Rattle.lfa.specs.FileOf.{WithinLimits}
use Rattle.lfa.specs.Question.{Question}
use Rattle.lfa.specs.Refusal.{Posed}
use Rattle.lfa.specs.Answer.{answer_to, network_loaded}
use Rattle.lfa.proofs.Laws.Accepted.{accepted_limits, accepted_loaded, link_count, prefix_count}
use Rattle.network_file.specs.Struct.{links_struct_of}
use Rattle.network_file.specs.Laws.Struct.{struct_columns}
use Rattle.metric.specs.declared.columns.Links.{Links}
use Rattle.metric.specs.Fit.{ColumnsWithin}
use Rattle.metric.specs.Columns.{InColumns}
use Rattle.metric.proofs.Laws.Columns.{limits_columns}
use Rattle.network_file.specs.declared.Fault.{Fault}
use Rattle.network_file.specs.Load.{answer_of}
use Rattle.lfa.specs.Question.{loading}
use Rattle.lfa.proofs.Laws.FileRows.{load_accepted}
use Rattle.lfa.proofs.Laws.Turned.{load_accepts}
use Rattle.question.specs.Taken.{Taken}

-- ---- the links that the file part hands over

-- where it accepts the file, they are the file's
pub taken : (b : Bytes) {T : Type 0} {told : Result T Fault} {held : T} {links : Links} → answer_of told ≡ answer_to (loading b) → links ≡ links_struct_of (network_loaded b) →
    ((i : ℕ) → get_or b i 0 < 256) → told ≡ Ok held → Taken b links
unfolding answer_of byte_at
taken b {T} answered e bytes v =
    let a = load_accepted b bytes (load_accepts b (sym answered ∙ ap answer_of v)) in
    record { is_accepted = a; links_is = e ∙ ap links_struct_of (accepted_loaded b a) }

-- what is handed over are the links of an accepted file
pub taken_posed : (q : Question) → Posed q → {links : Links} → links ≡ links_struct_of (network_loaded q.file) → Taken q.file links
taken_posed q p e = record { is_accepted = p.file; links_is = e ∙ ap links_struct_of (accepted_loaded q.file p.file) }

module _ {b : Bytes} {links : Links} (t : Taken b links) where
  pub limits : WithinLimits (network_of b)
  limits = accepted_limits b t.is_accepted

  pub network_columns : InColumns (network_of b) links.routers links.links links.from links.to links.out links.back
  network_columns = rw t.links_is (struct_columns (network_of b))

  pub columns_within : ColumnsWithin links.routers links.links links.from links.to
  columns_within = limits_columns limits network_columns

  pub routers_same : links.routers ≡ (network_of b).routers
  routers_same = sym network_columns.routers_are

  pub routers_are : links.routers ≡ routers_of b
  unfolding network_of links_struct_of
  routers_are = rw t.links_is

  pub links_are : links.links ≡ links_of b
  unfolding links_struct_of
  links_are = ap (λ (l : Links). l.links) t.links_is ∙ link_count b t.is_accepted

  pub prefixes_are : links.prefixes ≡ prefixes_of b
  unfolding links_struct_of
  prefixes_are = ap (λ (l : Links). l.prefixes) t.links_is ∙ prefix_count b t.is_accepted
