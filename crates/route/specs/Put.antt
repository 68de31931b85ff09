-- A question of the route call as the play is handed it: some of its inputs beside the rest, which the play does not look at.
-- Assumes nothing.
use Rattle.std.specs.Prelude.{ℕ, ◌<◌, ◌≡◌, Bool, List, Ok}
use Rattle.lfa.specs.File.{Bytes, byte_at}
use Rattle.lfa.specs.Space.{under_maintenance}
use Rattle.lfa.specs.Question.{Question, Source, route}
use Rattle.lfa.specs.Answer.{network_loaded}
use Rattle.network_file.specs.declared.network.Network.{Network}
use Rattle.network_file.specs.Struct.{struct_of, link_part}
use Rattle.rows.specs.declared.Asked.{Asked}
use Rattle.rows.specs.declared.Call.TheVariants.{Route}
use Rattle.question.specs.Turning.{Poses}

-- the numbers that the rows before 14 look at
unfoldable pub route_numbers : (buffer : ℕ) → Bool → (link end prefix : ℕ) → Asked
route_numbers buffer ranked link end prefix = record { call = Route; buffer = buffer; ranked = ranked; link = link; end = end; prefix = prefix }

-- the rest: where the distances come from, the file, how many cells there are for distances, the table that was lent, if it was, and what
-- the cells held before
pub record Rest : Type 0 where
  pub from : Source
  pub file : Bytes
  pub cells : ℕ
  pub table : List ℕ
  pub before : List ℕ

unfoldable pub route_question : Rest → (buffer : ℕ) → (ranks : List ℕ) → (link end prefix : ℕ) → (choices : List ℕ) → Question
route_question rest buffer ranks link end prefix choices = record {
  call = route rest.from;
  file = rest.file;
  cells = rest.cells;
  table = rest.table;
  buffer = buffer;
  ranks = ranks;
  link = link;
  end = end;
  prefix = prefix;
  choices = choices;
  maintenance = under_maintenance;
}

-- no row before 14 turns this question away, and the distances are in these cells
pub record IsPut (rest : Rest) (network : Network) (cells : List ℕ) (buffer : ℕ) (ranks : List ℕ) (link end prefix : ℕ) (choices : List ℕ) : Type 0 where
  pub bytes : (i : ℕ) → byte_at rest.file i < 256
  pub poses : Poses (route_question rest buffer ranks link end prefix choices) (Ok (link_part network)) rest.before cells
  pub whole : network ≡ struct_of (network_loaded rest.file)
