-- "Hand-worked networks": the lone theorem that the definitions yield every row of the tables (`Tables`), and what else document 01 says of
-- these networks.
-- Assumes nothing.
use Rattle.std.specs.Prelude.{ℕ, ◌≡◌, refl, Bool, true, false}
use Rattle.std.proofs.Common.{sym, ap, ◌∙◌, inl, arith}
use Rattle.std.proofs.Math.Option.{none}
use mathlib.Core.List.{List, [], ◌∷◌, Memᴰ}
use Rattle.lfa.specs.Lists.{count_up, below, select, any_of, every_below, member_of, flat, count, first_failing, unless, table, cell}
use Rattle.lfa.specs.Network.{Target, at, router, attachment_of, is_attached, arcs, arcs_from}
use Rattle.lfa.specs.File.{byte_at, word_at, part_of, all_zero, blocks_in, block_of, sum_words, check_of, routers_of, links_of, prefixes_of, ceil, link_blocks, prefix_blocks, blocks_needed, link_entry, link_in, prefix_entry, attachments, slot_router, slot, prefix_in, link_of, prefix_of, network_of, length_good, check_good, head_good, block_count_good, later_good, entries_in, sound_block, block_good, sound_link, link_good, join_same, link_new, slot_good, sound_prefix, prefix_good, slot_new, routers_new}
use Rattle.lfa.specs.FileOf.{file_of, blocks_of, prefix_block, link_block, entries_block, prefix_bytes, slot_bytes, link_bytes, head_block, block_bytes, pad, word_bytes}
use Rattle.lfa.specs.Ring.{next_on_ring, ring_link, ring_of}
use Rattle.lfa.specs.Distance.{least, cost_over, towards, hop_cost, direct, through, stage, distances, distance_in, cells_hold, holds_distances}
use Rattle.lfa.specs.Walk.{is_step, leads, takers, over, over_from, avoids, crosses, into, visits}
use Rattle.lfa.specs.Space.{under_maintenance, Protected, protected_by, protected, is_first, hop_over, first_hops, in_space, set_of, space_of}
use Rattle.lfa.specs.Ranks.{ascending, times_given, is_arrangement}
use Rattle.lfa.specs.Repair.{Pair, is_endpoint, pairs_of, pairs, serves, may_cross, node_protects, or_else, base_class_of, class_of, told_of, Keys, keys_of, key, no_later, earlier, choose, pair_key, first_pair, outcome_of, link_outcome, prefix_outcome}
use Rattle.lfa.specs.Route.{is_step_to, next_routers, delivers, moves_of, options, choice_at, option_taken, play_to, play_on, route_of}
use Rattle.lfa.proofs.Laws.Turned.{early_given}
use Rattle.lfa.specs.Question.{Question, route_buffer, a_link, cells_from, inputs_of, input_number, has_input, HasInput, loading, ask_space, ask_link, ask_prefix, ask_route, ask_link_with, ask_prefix_with, ask_route_with, network_asked, link_asked, prefix_asked, with_distances, link_found, prefix_found, searched, if_none}
use Rattle.lfa.specs.Refusal.{EarlyRow, short_area, wrong_table, short_buffer, bad_ranks, no_such_link, EarlyApplies, tries_early, file_returned, returned, file_number, leaves_all, entry_of, file_rows, early_rows, question_rows, all_rows, tries, rows_tried, first_row, in_file, file_refusal, refusal_of, sized_returned}
use Rattle.lfa.specs.Answer.{refused, refusal, route_for, route_played, repair_answer, route_answer, computed, answer_to, written_to, leave, exit_by, exit_of}
use Rattle.worked.specs.Tables.{ring, ring4prefix, ring5prefix, ring4attached, ring4cost3, ring5attached, behind_far, beside_far, ring3cost2, ring4cost10, two_routers, one_router, members, told, starred, ranked, tabled, ended, missed, Worked, asked, route}

-- what the definitions answer to the question of a row, in the row's form
unfoldable pub yielded : Worked → Worked
yielded (asked q a) = asked q (answer_to q)
yielded (route q a rs) = route q (answer_to q) (exit_of q route_buffer [])

unfoldable pub yielded_all : List Worked → List Worked
yielded_all [] = []
yielded_all (w ∷ ws) = yielded w ∷ yielded_all ws

-- to unfold this is to unfold every definition that an answer rests on
unfoldable opened : Unit {0}
unfolding count_up below select any_of every_below member_of flat count first_failing unless table cell times_given is_arrangement router arcs arcs_from byte_at word_at part_of all_zero blocks_in block_of sum_words check_of routers_of links_of prefixes_of ceil link_blocks prefix_blocks blocks_needed link_entry link_in prefix_entry attachments slot_router slot prefix_in link_of prefix_of network_of length_good check_good head_good block_count_good later_good entries_in sound_block block_good sound_link link_good join_same link_new slot_good sound_prefix prefix_good slot_new routers_new file_of blocks_of prefix_block link_block entries_block prefix_bytes slot_bytes link_bytes head_block block_bytes pad word_bytes least cost_over towards hop_cost direct through stage distances distance_in attachment_of is_attached is_step leads takers over over_from avoids crosses into visits protected_by protected is_first hop_over first_hops in_space set_of space_of is_endpoint pairs_of pairs serves may_cross node_protects or_else base_class_of class_of told_of key no_later earlier choose pair_key first_pair outcome_of link_outcome prefix_outcome is_step_to next_routers delivers moves_of options choice_at option_taken play_to play_on route_of answer_to route_played loading ask_space ask_link ask_prefix ask_route network_asked link_asked prefix_asked with_distances link_found prefix_found searched ask_link_with ask_prefix_with ask_route_with cells_from cells_hold holds_distances inputs_of input_number has_input if_none file_returned returned sized_returned file_number leaves_all entry_of file_rows early_rows question_rows all_rows tries rows_tried first_row in_file file_refusal refusal_of refusal route_for repair_answer route_answer computed written_to leave exit_by exit_of
opened = tt

tabled_yielded : yielded_all tabled ≡ tabled
unfolding opened next_on_ring ring_link ring_of ring ring4prefix told tabled yielded yielded_all
tabled_yielded = refl

-- the table; the lone router's "any link question" follows
rows_yielded : yielded_all starred ≡ starred
unfolding opened next_on_ring ring_link ring_of ring ring4prefix ring5prefix ring3cost2 ring4cost10 two_routers one_router members told starred yielded yielded_all
rows_yielded = refl

ranked_yielded : yielded_all ranked ≡ ranked
unfolding opened next_on_ring ring_link ring_of ring ring4prefix told ranked yielded yielded_all
ranked_yielded = refl

ended_yielded : yielded_all ended ≡ ended
unfolding opened next_on_ring ring_link ring_of ring ring4attached ring4cost3 ring5attached told ended yielded yielded_all
ended_yielded = refl

missed_yielded : yielded_all missed ≡ missed
unfolding opened next_on_ring ring_link ring_of ring ring5prefix behind_far beside_far ring5attached told missed yielded yielded_all
missed_yielded = refl

-- router 3 avoids link 0 of ring 4 to a prefix that is attached there too, and not to one at 1 alone
unfoldable pub ring4avoids : Target → Bool
ring4avoids to = avoids 4 (arcs (ring 4 [])) (distance_in (distances (ring 4 []))) to 0 3

-- ---- "One router alone: accepted; any link question 12, value 0."

lone_loaded : file_refusal (file_of one_router) ≡ none
unfolding opened one_router
lone_loaded = refl

lone_links : links_of (file_of one_router) ≡ 0
unfolding opened one_router
lone_links = refl

-- no row before 12 that the call tries applies: the buffers are long enough, a lent table is the file's, and the ranks are an arrangement
abbrev pub NoneBefore12 : Question → Type 0
NoneBefore12 q = (r : EarlyRow) (v : ℕ) → Memᴰ r (short_area ∷ wrong_table ∷ short_buffer ∷ bad_ranks ∷ []) → tries_early q.call r ≡ true → EarlyApplies q r v → ⊥

-- a link question about the lone router: where no row before 12 applies, row 12 does
lone_refused : (q : Question) → q.file ≡ file_of one_router → NoneBefore12 q → HasInput q a_link → answer_to q ≡ refused 12 0
unfolding early_rows tries entry_of
lone_refused q about none_before h =
    let links : links_of q.file ≡ 0 = rw about lone_links in
    early_given q _ _ no_such_link 0 refl (ap file_refusal about ∙ lone_loaded) none_before h (inl (rw links (omega arith)), sym links)

-- ---- the lone theorem

-- the distances of ring 5, and the question about its link 0, end 0
unfoldable pub ring5d : ℕ → ℕ → ℕ
ring5d = distance_in (distances (ring 5 []))

unfoldable pub ring5link : Protected
ring5link = protected under_maintenance (ring 5 []) 0 0

-- the pairs of hop 4 there, and what the order looks at
unfoldable pub over_hop4 : ℕ → Pair
over_hop4 y = record { hop = record { router = 4; cost = 1; over = 4 }; endpoint = y }

unfoldable pub ring5keys : Pair → Keys
ring5keys p = keys_of ascending ring5d ring5link (told_of 5 (arcs (ring 5 [])) ring5d ring5link (router 1) p)

-- The definitions yield every starred row: those of the table by computing them, and those of the lone router for every link, end,
-- prefix and call, since row 12 is the first that applies where there is no link. Of ring 5's link repair, hop 4 and endpoint 2, "3 ties
-- on distance": hop 4 with endpoint 3 serves too, at the same rank, which is its class, and at the same distance.
pub record Yielded : Type 0 where
  pub rows : yielded_all starred ≡ starred
  pub by_ranks : yielded_all ranked ≡ ranked
  pub by_table : yielded_all tabled ≡ tabled
  pub by_ends : yielded_all ended ≡ ended
  pub by_protection : yielded_all missed ≡ missed
  pub ring_4_avoids : (ring4avoids (at 1 0 ∷ at 3 100 ∷ []) ≡ true) × (ring4avoids (at 1 0 ∷ []) ≡ false)
  pub ring_5_tie : (serves 5 (arcs (ring 5 [])) ring5d ring5link (router 1) (over_hop4 3) ≡ true)
      × ((ring5keys (over_hop4 3)).rank ≡ (ring5keys (over_hop4 2)).rank)
      × ((ring5keys (over_hop4 3)).distance ≡ (ring5keys (over_hop4 2)).distance)
  pub lone : (q : Question) → q.file ≡ file_of one_router → NoneBefore12 q → HasInput q a_link → answer_to q ≡ refused 12 0

pub hand_worked : Yielded
unfolding opened next_on_ring ring_link ring_of ring ring4avoids ring5d ring5link over_hop4 ring5keys
hand_worked = record { rows = rows_yielded; by_ranks = ranked_yielded; by_table = tabled_yielded; by_ends = ended_yielded; by_protection = missed_yielded; ring_4_avoids = (refl, refl); ring_5_tie = (refl, refl, refl); lone = lone_refused }
