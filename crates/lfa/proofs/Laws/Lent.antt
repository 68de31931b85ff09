-- What each call is lent, and that its question holds it: by computing both.
-- Assumes nothing.
use Rattle.std.specs.Prelude.{◌≡◌, refl, ◌&&◌, not}
use Rattle.lfa.specs.Lists.{select, member_of, any_of}
use Rattle.lfa.specs.Question.{Call, load, fill, space, link_repair, prefix_repair, route, own_fill, lent_table, loading, filling, ask_space, ask_link, ask_prefix, ask_route, ask_link_with, ask_prefix_with, ask_route_with, to_prefix_repair, with_table, second_call, inputs_of, cells_from, input_number, has_input, work_area, route_buffer, lent}
use Rattle.lfa.specs.Refusal.{entry_of, file_number, file_rows, early_rows, question_rows, all_rows, tries, rows_tried}
use Rattle.lfa.specs.Demands.{numbers_tried, EachIsLent, EachQuestion}

pub each_question : EachQuestion
unfolding loading filling ask_space ask_link ask_prefix ask_route ask_link_with ask_prefix_with ask_route_with to_prefix_repair with_table second_call
each_question = record {
  of_load = λ b. (refl, refl, refl, refl, refl, refl, refl);
  of_distances = λ b area. (refl, refl, refl, refl, refl, refl, refl);
  of_space = λ s b area l e. (refl, refl, refl, refl, refl, refl, refl);
  of_link = λ b area l e ranks. (refl, refl, refl, refl, refl, refl, refl);
  of_prefix = λ b area l e p ranks. (refl, refl, refl, refl, refl, refl, refl);
  of_route = λ b area buffer l e p ranks choices. ((refl, refl, refl, refl, refl, refl, refl), refl, refl);
  of_link_with = λ b area l e table ranks. (refl, refl);
  of_prefix_with = λ b area l e p table ranks. (refl, refl);
  of_route_with = λ b area buffer l e p table ranks choices. (refl, refl);
  with_table_lem = λ table q. ((refl, refl, refl, refl, refl, refl, refl), refl, refl, refl, refl);
  route_prefix = λ b area buffer l e p ranks choices. refl;
  route_prefix_with = λ b buffer l e p table ranks choices. refl;
}

area_lent : (c : Call) → has_input c (lent work_area) ≡ (member_of 10 (numbers_tried c) && not (member_of 18 (numbers_tried c)))
unfolding rows_tried all_rows file_rows question_rows early_rows tries entry_of file_number select has_input inputs_of cells_from input_number member_of any_of
area_lent load = refl
area_lent fill = refl
area_lent (space s) = refl
area_lent (link_repair own_fill) = refl
area_lent (link_repair lent_table) = refl
area_lent (prefix_repair own_fill) = refl
area_lent (prefix_repair lent_table) = refl
area_lent (route own_fill) = refl
area_lent (route lent_table) = refl

route_lent : (c : Call) → has_input c (lent route_buffer) ≡ member_of 11 (numbers_tried c)
unfolding rows_tried all_rows file_rows question_rows early_rows tries entry_of file_number select has_input inputs_of cells_from input_number member_of any_of
route_lent load = refl
route_lent fill = refl
route_lent (space s) = refl
route_lent (link_repair own_fill) = refl
route_lent (link_repair lent_table) = refl
route_lent (prefix_repair own_fill) = refl
route_lent (prefix_repair lent_table) = refl
route_lent (route own_fill) = refl
route_lent (route lent_table) = refl

pub each_is_lent : EachIsLent
each_is_lent = record { area = area_lent; route = route_lent }
