-- What a public call owes for a question: its answer, and what each lent buffer holds at exit. The contracts cite these records.
-- Assumes nothing.
use Rattle.std.specs.Prelude.{ℕ, ◌≡◌, List}
use Rattle.lfa.specs.Question.{Question, work_area, route_buffer}
use Rattle.lfa.specs.Answer.{Answer, answer_to, exit_of}

-- a call that is lent a work area: `area` is what it held, `area_after` what it holds at exit
pub record Answered (q : Question) (answer : Answer) (area area_after : List ℕ) : Type 0 where
  pub answer_is : answer ≡ answer_to q
  pub area_is : area_after ≡ exit_of q work_area area

-- a call that is lent a route buffer, and no work area: `buffer` is what it held, `buffer_after` what it holds at exit
pub record RoutedWith (q : Question) (answer : Answer) (buffer buffer_after : List ℕ) : Type 0 where
  pub answer_is : answer ≡ answer_to q
  pub buffer_is : buffer_after ≡ exit_of q route_buffer buffer

-- a call that is lent both
pub record Routed (q : Question) (answer : Answer) (area area_after buffer buffer_after : List ℕ) : Type 0 where
  pub answered : Answered q answer area area_after
  pub buffer_is : buffer_after ≡ exit_of q route_buffer buffer
