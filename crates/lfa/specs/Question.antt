-- What each call is asked, what a question is about, and which inputs a call has.
-- Assumes nothing.
use Rattle.std.specs.Prelude.{ℕ, ◌≡◌, Bool, true, List, [], ◌∷◌, map, get_or, length}
use Rattle.std.proofs.Math.Option.{Option, none, some}
use Rattle.lfa.specs.Lists.{Table, member_of}
use Rattle.lfa.specs.Network.{Network, Target, arcs}
use Rattle.lfa.specs.File.{Bytes, network_of}
use Rattle.lfa.specs.Distance.{distances, distance_in}
use Rattle.lfa.specs.Space.{Space, p_space, extended_p, q_space, under_maintenance, Protected, protected}
use Rattle.lfa.specs.Repair.{Outcome, prefix_unreachable, prefix_untouched, none_serves, serving, link_outcome, prefix_outcome}

-- Where a repair or route call has the distances from: it fills a work area itself, or is lent a table. Point 7: "Split each repair question
-- in two: one call fills the distance table, the other takes the file, a table and the question."
pub data Source : Type 0 where
  own_fill lent_table : Source

-- the calls that answer with a refusal or something else; `fill` is the one for the distances. The two calls for the bytes of an entry have
-- answers of their own (`Answer.link_part`, `prefix_part`).
pub data Call : Type 0 where
  load fill : Call
  space : Space → Call
  link_repair prefix_repair route : Source → Call

-- what a call is asked: the file, how many cells its work area or its table of distances has, that table, the length of the route buffer in
-- bytes, the table of ranks, the link, the end, the prefix and the choice bytes. A call reads only the inputs that it has. `maintenance` is
-- no input: it is the cost at which a link is under maintenance, the same in every question that is put.
pub record Question : Type 0 where
  pub call : Call
  pub file : Bytes
  pub cells : ℕ
  pub table : List ℕ
  pub buffer : ℕ
  pub ranks : List ℕ
  pub link : ℕ
  pub end : ℕ
  pub prefix : ℕ
  pub choices : List ℕ
  pub maintenance : ℕ

-- ---- the questions of each call

-- a question of a call; what the call has no input for is 0 or empty
abbrev ask : Call → Bytes → (cells : ℕ) → (table : List ℕ) → (buffer : ℕ) → (ranks : List ℕ) → (link end prefix : ℕ) → (choices : List ℕ) → Question
ask c b cells table buffer ranks l e p choices = record {
  call = c;
  file = b;
  cells = cells;
  table = table;
  buffer = buffer;
  ranks = ranks;
  link = l;
  end = e;
  prefix = p;
  choices = choices;
  maintenance = under_maintenance;
}

unfoldable pub loading : Bytes → Question
loading b = ask load b 0 [] 0 [] 0 0 0 []

unfoldable pub filling : Bytes → ℕ → Question
filling b area = ask fill b area [] 0 [] 0 0 0 []

unfoldable pub ask_space : Space → Bytes → ℕ → ℕ → ℕ → Question
ask_space s b area l e = ask (space s) b area [] 0 [] l e 0 []

unfoldable pub ask_link : Bytes → (area : ℕ) → (ranks : List ℕ) → (link end : ℕ) → Question
ask_link b area ranks l e = ask (link_repair own_fill) b area [] 0 ranks l e 0 []

unfoldable pub ask_prefix : Bytes → (area : ℕ) → (ranks : List ℕ) → (link end prefix : ℕ) → Question
ask_prefix b area ranks l e p = ask (prefix_repair own_fill) b area [] 0 ranks l e p []

unfoldable pub ask_route : Bytes → (area buffer : ℕ) → (ranks : List ℕ) → (link end prefix : ℕ) → (choices : List ℕ) → Question
ask_route b area buffer ranks l e p choices = ask (route own_fill) b area [] buffer ranks l e p choices

-- the same with a lent table of distances in place of the work area
unfoldable pub ask_link_with : Bytes → (table ranks : List ℕ) → (link end : ℕ) → Question
ask_link_with b table ranks l e = ask (link_repair lent_table) b (length table) table 0 ranks l e 0 []

unfoldable pub ask_prefix_with : Bytes → (table ranks : List ℕ) → (link end prefix : ℕ) → Question
ask_prefix_with b table ranks l e p = ask (prefix_repair lent_table) b (length table) table 0 ranks l e p []

unfoldable pub ask_route_with : Bytes → (table : List ℕ) → (buffer : ℕ) → (ranks : List ℕ) → (link end prefix : ℕ) → (choices : List ℕ) → Question
ask_route_with b table buffer ranks l e p choices = ask (route lent_table) b (length table) table buffer ranks l e p choices

-- the same question, put to the prefix repair call that has its distances from this source
unfoldable pub to_prefix_repair : Source → Question → Question
to_prefix_repair from q = record {
  call = prefix_repair from;
  file = q.file;
  cells = q.cells;
  table = q.table;
  buffer = 0;
  ranks = q.ranks;
  link = q.link;
  end = q.end;
  prefix = q.prefix;
  choices = [];
  maintenance = q.maintenance;
}

-- Point 7: the second call, which is lent a table; a call that has none stays
unfoldable pub second_call : Call → Call
second_call load = load
second_call fill = fill
second_call (space s) = space s
second_call (link_repair from) = link_repair lent_table
second_call (prefix_repair from) = prefix_repair lent_table
second_call (route from) = route lent_table

-- the same question put to the second call, which is lent this table
unfoldable pub with_table : (table : List ℕ) → Question → Question
with_table table q = record {
  call = second_call q.call;
  file = q.file;
  cells = length table;
  table = table;
  buffer = q.buffer;
  ranks = q.ranks;
  link = q.link;
  end = q.end;
  prefix = q.prefix;
  choices = q.choices;
  maintenance = q.maintenance;
}

-- another call about another file, with other choice bytes and another limit, and with what else is asked as in the question
abbrev pub same_numbers : Question → Call → Bytes → (choices : List ℕ) → (maintenance : ℕ) → Question
same_numbers q c b choices m = record { call = c; file = b; cells = q.cells; table = q.table; buffer = q.buffer; ranks = q.ranks; link = q.link; end = q.end; prefix = q.prefix; choices = choices; maintenance = m }

-- the same question where no link is under maintenance, since none costs that much: as it was before Point 1
unfoldable pub without_maintenance : Question → Question
without_maintenance q = same_numbers q q.call q.file q.choices 65536

-- the same question with another table of ranks
unfoldable pub with_ranks : (ranks : List ℕ) → Question → Question
with_ranks ranks q = record {
  call = q.call;
  file = q.file;
  cells = q.cells;
  table = q.table;
  buffer = q.buffer;
  ranks = ranks;
  link = q.link;
  end = q.end;
  prefix = q.prefix;
  choices = q.choices;
  maintenance = q.maintenance;
}

-- the calls that look at first hops
abbrev pub LooksAtFirstHops : Call → Type 0
LooksAtFirstHops load = ⊥
LooksAtFirstHops fill = ⊥
LooksAtFirstHops (space p_space) = ⊥
LooksAtFirstHops (space extended_p) = Unit {0}
LooksAtFirstHops (space q_space) = ⊥
LooksAtFirstHops (link_repair f) = Unit {0}
LooksAtFirstHops (prefix_repair f) = Unit {0}
LooksAtFirstHops (route f) = Unit {0}

-- ---- the inputs of a call, as far as a row of the table looks at them

-- the buffers that are lent to be written
pub data Buffer : Type 0 where
  work_area route_buffer : Buffer

-- what a row of the table looks at; `some_cells`: cells for the distances, lent as a work area or as a table; `searching`: the call searches
-- for a pair
pub data Input : Type 0 where
  a_file some_cells a_table a_rank_table a_link a_prefix searching : Input
  lent : Buffer → Input

-- the cells from a source: a work area that is lent to be written, or a table that is only read
unfoldable pub cells_from : Source → Input
cells_from own_fill = lent work_area
cells_from lent_table = a_table

unfoldable pub inputs_of : Call → List Input
inputs_of load = a_file ∷ []
inputs_of fill = a_file ∷ some_cells ∷ lent work_area ∷ []
inputs_of (space s) = a_file ∷ some_cells ∷ lent work_area ∷ a_link ∷ []
inputs_of (link_repair f) = a_file ∷ some_cells ∷ a_rank_table ∷ a_link ∷ searching ∷ cells_from f ∷ []
inputs_of (prefix_repair f) = a_file ∷ some_cells ∷ a_rank_table ∷ a_link ∷ a_prefix ∷ searching ∷ cells_from f ∷ []
inputs_of (route f) = a_file ∷ some_cells ∷ lent route_buffer ∷ a_rank_table ∷ a_link ∷ a_prefix ∷ searching ∷ cells_from f ∷ []

-- a number for each input, by which they are told apart
unfoldable pub input_number : Input → ℕ
input_number a_file = 0
input_number a_link = 1
input_number a_prefix = 2
input_number searching = 3
input_number (lent work_area) = 4
input_number (lent route_buffer) = 5
input_number a_rank_table = 6
input_number some_cells = 7
input_number a_table = 8

unfoldable pub has_input : Call → Input → Bool
has_input c i = member_of (input_number i) (map input_number (inputs_of c))

abbrev pub HasInput : Question → Input → Type 0
HasInput q i = has_input q.call i ≡ true

-- ---- what a question is about, where its file is accepted

unfoldable pub network_asked : Question → Network
network_asked q = network_of q.file

unfoldable pub link_asked : Question → Protected
link_asked q = protected q.maintenance (network_asked q) q.link q.end

unfoldable pub prefix_asked : Question → Target
prefix_asked q = get_or (network_asked q).prefixes q.prefix []

-- what is computed from the distances of a network
unfoldable pub with_distances {ℓ} : {A : Type ℓ} → Network → ((ℕ → ℕ → ℕ) → A) → A
with_distances net compute = let t : Table = distances net in compute (distance_in t)

-- what a link repair finds, and what a prefix repair or a route call finds
unfoldable pub link_found : Question → Outcome
link_found q = with_distances (network_asked q) (λ d. link_outcome q.ranks (network_asked q).routers (arcs (network_asked q)) d (link_asked q))

unfoldable pub prefix_found : Question → Outcome
prefix_found q = with_distances (network_asked q) (λ d. prefix_outcome q.ranks (network_asked q).routers (arcs (network_asked q)) d (link_asked q) (prefix_asked q))

-- what a call's search finds; nothing where the call does not search
unfoldable pub searched : Question → Call → Option Outcome
searched q load = none
searched q fill = none
searched q (space s) = none
searched q (link_repair f) = some (link_found q)
searched q (prefix_repair f) = some (prefix_found q)
searched q (route f) = some (prefix_found q)

-- the value, where a search has found that no pair serves
unfoldable pub if_none : Option Outcome → ℕ → Option ℕ
if_none none value = none
if_none (some prefix_unreachable) value = none
if_none (some prefix_untouched) value = none
if_none (some none_serves) value = some value
if_none (some (serving t)) value = none
