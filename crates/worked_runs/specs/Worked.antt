-- The definitions yield, for each run of `Runs`, the answer and the network that are worked out of it by hand.
-- Assumes nothing.
use Rattle.std.specs.Prelude.{ℕ, ◌≡◌, refl, List, [], ◌∷◌, ◌++◌, map}
use Rattle.lfa.specs.Lists.{count_up, below, select, every_below, flat, first_failing, unless}
use Rattle.lfa.specs.Network.{Network, link, at}
use Rattle.lfa.specs.File.{Bytes, byte_at, word_at, part_of, all_zero, blocks_in, block_of, sum_words, check_of, routers_of, links_of, prefixes_of, ceil, link_blocks, prefix_blocks, blocks_needed, link_entry, link_in, prefix_entry, attachments, slot_router, slot, prefix_in, link_of, prefix_of, length_good, check_good, head_good, block_count_good, later_good, entries_in, sound_block, block_good, sound_link, link_good, join_same, link_new, slot_good, sound_prefix, prefix_good, slot_new, routers_new}
use Rattle.lfa.specs.FileOf.{file_of, blocks_of, prefix_block, link_block, entries_block, prefix_bytes, slot_bytes, link_bytes, head_block, block_bytes, pad, word_bytes}
use Rattle.lfa.specs.Refusal.{file_returned, file_rows, first_row, file_refusal}
use Rattle.lfa.specs.Writing.{head_fits, counts_fit, are_bytes, passes_rows, has_file, file_fits}
use Rattle.ospf.specs.Order.{insert, ascend}
use Rattle.ospf.specs.Lsa.{be16, be32, length_field, router_field, links_field, entry_at, lsa_in, whole_good, filled_good, type_good, fletcher, both_zero, checksum_good, sound_entry, entry_good, same_neighbour, entry_new, sound_lsa}
use Rattle.ospf.specs.Run.{begin_of, lsa_bytes, lsas_of, router_new, lsa_good, scan_from, scan}
use Rattle.ospf.specs.Network.{router_of, links_in, entries_of, metric_of, name_of, is_towards, is_stub, is_stub_of, towards, stubs_of, stub_names, ids_of, pair_up, joining, links_up, name_less, names_of, least_of, attachment, attached, network_with, network_from}
use Rattle.ospf.specs.Import.{network_of, ImportAnswer, refused, written, import_number, import_rows, first_bad, good_lsas, import_returned, import_refusal, answer_by, import_answer}
use Rattle.worked_runs.specs.Runs.{head, to_router, to_stub, r1, r2, r3, far, net8, mask8, mask16, simple, lone, other_fields, unordered, one_sided, good, transit, metric_zero, to_itself, named_before, tos_metric, too_few, several, other_type, wrong_sums, zero_checksum, cut_short, both_bad}

-- to unfold this is to unfold every definition that an answer rests on
unfoldable opened : Unit {0}
unfolding count_up below select every_below flat first_failing unless byte_at word_at part_of all_zero blocks_in block_of sum_words check_of routers_of links_of prefixes_of ceil link_blocks prefix_blocks blocks_needed link_entry link_in prefix_entry attachments slot_router slot prefix_in link_of prefix_of length_good check_good head_good block_count_good later_good entries_in sound_block block_good sound_link link_good join_same link_new slot_good sound_prefix prefix_good slot_new routers_new file_of blocks_of prefix_block link_block entries_block prefix_bytes slot_bytes link_bytes head_block block_bytes pad word_bytes file_returned file_rows first_row file_refusal head_fits counts_fit are_bytes passes_rows has_file file_fits insert ascend be16 be32 length_field router_field links_field entry_at lsa_in whole_good filled_good type_good fletcher both_zero checksum_good sound_entry entry_good same_neighbour entry_new sound_lsa begin_of lsa_bytes lsas_of router_new lsa_good scan_from scan router_of links_in entries_of metric_of name_of is_towards is_stub is_stub_of towards stubs_of stub_names ids_of pair_up joining links_up name_less names_of least_of attachment attached network_with network_from import_number import_rows first_bad good_lsas import_returned import_refusal answer_by import_answer network_of head to_router to_stub r1 r2 r3 far net8 mask8 mask16 simple lone other_fields unordered one_sided good transit metric_zero to_itself named_before tos_metric too_few several other_type wrong_sums zero_checksum cut_short both_bad
opened = tt

-- ---- the answers

-- a run, the bytes of the buffer, and the answer
pub data Case : Type 0 where
  case : (run : Bytes) (size : ℕ) (expected : ImportAnswer) → Case

unfoldable pub answered : Case → ImportAnswer
answered (case run size expected) = import_answer run size

unfoldable pub expected_of : Case → ImportAnswer
expected_of (case run size expected) = expected

-- an LSA after a good one
unfoldable pub second : Bytes → Case
second lsa = case (good ++ lsa) 6656 (refused 16 1)

unfoldable pub cases : List Case
cases =
    case simple 6656 (written 1536)
    ∷ case [] 6656 (refused 17 0)
    ∷ case lone 512 (written 512)
    ∷ case lone 511 (refused 17 0)
    ∷ case one_sided 6656 (written 512)
    ∷ map second (transit ∷ metric_zero ∷ to_itself ∷ named_before ∷ tos_metric ∷ too_few ∷ several ∷ other_type ∷ wrong_sums ∷ zero_checksum ∷ cut_short ∷ [])
    ++ case both_bad 6656 (refused 16 0)
    ∷ case both_bad 0 (refused 16 0)
    ∷ []

-- ---- the networks

pub data Meant : Type 0 where
  meant : (run : Bytes) (net : Network) → Meant

unfoldable pub computed : Meant → Network
computed (meant run net) = network_of run

unfoldable pub network_in : Meant → Network
network_in (meant run net) = net

unfoldable pub networks : List Meant
networks =
    meant simple (record { routers = 3; links = link 0 1 10 20 ∷ []; prefixes = (at 0 4 ∷ at 1 0 ∷ []) ∷ (at 0 1 ∷ []) ∷ [] })
    ∷ meant lone (record { routers = 1; links = []; prefixes = [] })
    ∷ meant other_fields (record { routers = 2; links = link 0 1 65535 1 ∷ []; prefixes = (at 1 0 ∷ []) ∷ (at 0 65535 ∷ []) ∷ [] })
    ∷ meant unordered (record {
      routers = 4;
      links = link 0 2 9 6 ∷ link 0 3 8 5 ∷ link 2 3 7 4 ∷ [];
      prefixes = (at 1 9 ∷ []) ∷ (at 1 8 ∷ []) ∷ (at 0 1 ∷ at 2 2 ∷ []) ∷ (at 3 3 ∷ []) ∷ [];
    })
    ∷ meant one_sided (record { routers = 2; links = []; prefixes = [] })
    ∷ []

pub record RunsYielded : Type 0 where
  pub answers : map answered cases ≡ map expected_of cases
  pub meanings : map computed networks ≡ map network_in networks

pub runs_worked : RunsYielded
unfolding opened answered expected_of second cases computed network_in networks
runs_worked = record { answers = refl; meanings = refl }
