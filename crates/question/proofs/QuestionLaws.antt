-- The rows before 14 in one place: what the file part refuses is refused early, and where it refuses nothing, the counts of the network
-- that it hands over decide the rows of the question.
-- Assumes nothing.
use Rattle.std.proofs.Common.{◌≡◌, ℕ, ◌*◌, ◌%◌, ◌≤◌, Bool, List, length, refl, sym, ap, ◌∙◌, subst, arith}
use Rattle.std.proofs.lemmas.Bool.{false≢true}
use Rattle.std.proofs.Math.Option.{Option, none, some}
use Rattle.std.specs.Prelude.{Result, Ok, Err, ⊤, IsErr, IsErrAnd}
use Rattle.lfa.specs.Lists.{select}
use Rattle.lfa.specs.Network as lfa
use Rattle.lfa.specs.Distance.{holds_distances, filled}
use Rattle.lfa.specs.File.{Bytes, routers_of, links_of, prefixes_of, network_of}
use Rattle.lfa.specs.Question.{Question, loading, some_cells, HasInput, network_asked}
use Rattle.lfa.specs.Refusal.{Row, early_rows, tries_early, Decided, first_row, in_file, in_early, sized_returned, Accepted, Posed}
use Rattle.lfa.specs.Answer.{Answer, accepted, refusal, early_answer, answer_to, network_loaded}
use Rattle.lfa.proofs.Laws.Turned.{load_answer, load_answer_lem, load_early, loaded_early, answer_posed}
use Rattle.lfa.proofs.Laws.FileRows.{accepted_passes_rows}
use Rattle.lfa.proofs.Laws.Accepted.{accepted_loaded}
use Rattle.network_file.specs.declared.Fault.{Fault}
use Rattle.network_file.specs.declared.network.Network.{Network}
use Rattle.network_file.specs.Load.{fault_row, fault_of, answer_of}
use Rattle.network_file.specs.Struct.{struct_of, links_struct_of, link_part}
use Rattle.metric.specs.declared.columns.Links.{Links}
use Rattle.table.specs.Calls.{table_holds}
use Rattle.table.specs.Laws.Calls.{holds_is}
use Rattle.distance.specs.Calls.{area_filled}
use Rattle.distance.specs.Laws.Calls.{filled_columns}
use Rattle.rows.specs.declared.Cells.{Cells}
use Rattle.rows.specs.declared.Row as enum
use Rattle.rows.specs.Rows.{right_in, row_decided}
use Rattle.question.specs.Turning.{row_of, turned_row, turned_answer, area_posed, links_posed, TableJudged}
use Rattle.question.specs.declared.Refusal.{Refusal}
use Rattle.question.specs.Taken.{Taken}
use Rattle.question.specs.Laws.Loaded.{limits, columns_within, network_columns, routers_same, routers_are, links_are, prefixes_are}

-- ---- refusals that are handed on

-- what is handed on is the refusal
pub err_is : {T : Type 0} (x : Refusal) (o : Result T Refusal) → IsErrAnd o (λ y. y ≡ x) → o ≡ Err x
err_is x (Err y) e = ap Err e
err_is x (Ok held) e = absurd e

-- a row as a refusal
pub row_gone : {T : Type 0} (row : enum.Row) (o : Result T Refusal) → IsErrAnd o (λ x. some (row_of x) ≡ in_early (row_decided (Err row))) → turned_row o ≡ in_early (row_decided (Err row))
unfolding turned_row
row_gone row (Err x) e = e
row_gone row (Ok held) e = absurd e

-- a refusal as it is
pub refusal_gone : {T : Type 0} (U : Type 0) (x : Refusal) (o : Result T Refusal) {a : Option Answer} → IsErrAnd o (λ y. y ≡ x) → turned_answer {T = U} (Err x) ≡ a → turned_answer o ≡ a
unfolding turned_answer turned_row
refusal_gone U x (Err y) e h = ap (λ (z : Refusal). some (refusal (row_of z))) e ∙ h
refusal_gone U x (Ok held) e h = absurd e

-- what the file part refuses is refused early
pub fault_early : {T : Type 0} (L : Type 0) (q : Question) (f : Fault) (o : Result T Refusal) → IsErrAnd o (λ x. row_of x ≡ in_file (fault_row f)) → answer_of {T = L} (Err f) ≡ answer_to (loading q.file) → turned_answer o ≡ early_answer q
unfolding answer_of fault_of turned_answer turned_row
fault_early L q f (Err x) e told = ap (λ (d : Decided Row). some (refusal d)) e ∙ load_early q (fault_row f) (sym told)
fault_early L q f (Ok held) e told = absurd e

-- the area that a refused question leaves
pub area_gone : {T : Type 0} (o : Result T Refusal) → IsErr o → (net : lfa.Network) (area : List ℕ) → area ≡ area_posed o net area
unfolding area_posed
area_gone (Err x) e net area = refl
area_gone (Ok held) e net area = absurd (false≢true e)

pub area_left : {T : Type 0} (U : Type 0) (x : Refusal) (o : Result T Refusal) → IsErr o → (net : lfa.Network) (area after : List ℕ) → after ≡ area_posed {T = U} (Err x) net area → after ≡ area_posed o net area
unfolding area_posed
area_left U x (Err y) e net area after h = h
area_left U x (Ok held) e net area after h = absurd (false≢true e)

-- and the same where it was handed the whole network
pub network_gone : (P : Refusal → Type 0) (o : Result Network Refusal) → IsErrAnd o P → IsErrAnd (links_posed o) P
network_gone P (Err x) e = e
network_gone P (Ok network) e = absurd e

pub network_refused : (o : Result Network Refusal) → IsErr o → IsErr (links_posed o)
network_refused (Err x) e = e
network_refused (Ok network) e = e

-- the links of a network by value
pub part_is : {network : Network} (net : lfa.Network) → network ≡ struct_of net → network.links ≡ links_struct_of net
unfolding struct_of
part_is net e = ap link_part e

-- ---- an accepted file

accepted_answer : (b : Bytes) → Accepted b → answer_to (loading b) ≡ accepted
unfolding load_answer
accepted_answer b a = load_answer_lem b ∙ ap load_answer (accepted_passes_rows b a)

-- The check's answer is about the network of the file.
pub checked : {b : Bytes} {links : Links} (t : Taken b links) (table : List ℕ) {r : Bool} → r ≡ table_holds links.routers links.links links.from links.to links.out links.back table → r ≡ holds_distances (network_of b) table
checked t table tested = tested ∙ holds_is (limits t) (network_columns t) table

module _ (q : Question) {links : Links} (t : Taken q.file links) where
  -- The rows of the question, by the counts of the network: the file is accepted, so that these counts are those in its head, by which the
  -- rows of the question are defined.
  pub row_early : {n : ℕ} → n ≡ links.routers % 256 → (cells : Cells) → TableJudged q cells → (row : Result ⊤ enum.Row) →
      row_decided row ≡ first_row (sized_returned n links.links links.prefixes (right_in cells (holds_distances (network_asked q) q.table)) q) (select (tries_early q.call) early_rows) →
      {T : Type 0} (turned : Result T Refusal) → turned_row turned ≡ in_early (row_decided row) → turned_answer turned ≡ early_answer q
  unfolding turned_answer early_answer
  row_early {n} cut cells judged row decides turned by = ap answered (by ∙ ap in_early same ∙ sym (loaded_early q (accepted_answer q.file t.is_accepted)))
    where
      answered : Option (Decided Row) → Option Answer
      answered o = elim o [ some d ↦ some (refusal d) | none ↦ none ]

      whole : n ≡ links.routers
      whole = omega (arith, (columns_within t).few_routers)

      same : row_decided row ≡ first_row (sized_returned (routers_of q.file) (links_of q.file) (prefixes_of q.file) (holds_distances (network_asked q) q.table) q) (select (tries_early q.call) early_rows)
      same = rw (whole, judged, routers_are t, links_are t, prefixes_are t) at decides

  -- Where no row applies, the area holds the distances of the network: it is long enough.
  pub filled_posed : (area : List ℕ) {after : List ℕ} → HasInput q some_cells → q.cells ≡ length area → none ≡ early_answer q →
      after ≡ area_filled links.routers links.links links.from links.to links.out links.back area → {T : Type 0} (held : T) → after ≡ area_posed (Ok held) (network_loaded q.file) area
  unfolding area_posed network_asked
  filled_posed area {after} has cells passes full held =
      let net = network_of q.file in
      let done : after ≡ filled net area = filled_columns (columns_within t) links.out links.back area enough net (network_columns t) full in
      done ∙ sym (ap (λ (n : lfa.Network). filled n area) (accepted_loaded q.file t.is_accepted))
    where
      p : Posed q
      p = answer_posed q t.is_accepted.bytes (sym passes)

      enough : links.routers * links.routers ≤ length area
      enough =
          let k : (network_of q.file).routers * (network_of q.file).routers ≤ length area = omega (arith, cells, p.cells has) in
          subst (λ (n : ℕ). n * n ≤ length area) (sym (routers_same t)) k
