-- Demand 1 holds: every question is answered by the table, and every part of a file is the entry or empty.
-- Assumes nothing.
use Rattle.std.specs.Prelude.{ℕ, ◌≡◌, refl, ltb}
use Rattle.std.proofs.Common.{sym, ap, ◌∙◌, arith, lt-ltb, le-ltb}
use Rattle.std.proofs.Math.Option.{Option, none, some}
use Rattle.lfa.specs.Lists.{count_up, select, member_of, any_of}
use Rattle.lfa.specs.File.{Bytes, links_of, prefixes_of, link_entry, prefix_entry}
use Rattle.lfa.specs.Question.{Question, loading, inputs_of, cells_from, input_number, has_input}
use Rattle.lfa.specs.Refusal.{FileRow, Row, of_file, entry_of, file_number, file_rows, early_rows, question_rows, all_rows, Decides, Decided, decided, in_file, file_refusal, tries, rows_tried}
use Rattle.lfa.specs.Answer.{part_if, link_part, prefix_part, computed}
use Rattle.lfa.specs.Demands.{ByTheTable, PartGiven, EachCallTries, FilesAndNetworks, Demand1}
use Rattle.lfa.proofs.Laws.Lent.{each_question, each_is_lent}
use Rattle.lfa.proofs.Laws.FileRows.{refused_file, load_passes}
use Rattle.lfa.proofs.Laws.Causes.{decides_found, found_decides}
use Rattle.lfa.proofs.Laws.Answers.{refusal_given, refusal_stated, row_leaves, no_row_leaves, no_row_computes}
use Rattle.lfa.proofs.Laws.Accepted.{written_accepted, written_loaded, accepted_loaded, accepted_limits, accepted_written}

-- ---- demand 1

pub by_the_table : (q : Question) → ByTheTable q
unfolding computed
by_the_table q = record {
  refusal_given = refusal_given q;
  refusal_stated = refusal_stated q;
  row_leaves = λ r v f x h before. row_leaves q r v f x before;
  no_row_leaves = λ none x h before. no_row_leaves q none x before;
  loaded = λ c none. no_row_computes q none ∙ ap (computed q) c;
  filled = λ c none. no_row_computes q none ∙ ap (computed q) c;
}

-- a part is given exactly where no row turns the file away and the number is below the count
pub part_given : (b : Bytes) (k count : ℕ) (entry : Bytes) → PartGiven b k count entry (part_if (file_refusal b) (ltb k count) entry)
unfolding part_if loading in_file
part_given b k count entry = go (file_refusal b) refl
  where
    clash : {A : Type 0} {r : Row} {v : ℕ} → file_refusal b ≡ none → Decides (loading b) r v → A
    clash p f = absurd (let e = sym (load_passes b p) ∙ decides_found (loading b) _ _ f in let z : ◌≡◌ {A = ℕ} 0 1 = cc in omega arith)

    go : (o : Option (Decided FileRow)) → file_refusal b ≡ o → PartGiven b k count entry (part_if o (ltb k count) entry)
    go none p = record {
      whole = λ passes h. rw (lt-ltb k count h);
      refused_file = λ r v f. clash p f;
      too_large = λ h. rw (le-ltb k count h);
    }
    go (some (decided r v)) p = record {
      whole = λ passes h. absurd (passes (of_file r) v (found_decides (loading b) (of_file r) v (refused_file (loading b) (decided r v) p)));
      refused_file = λ s w f. refl;
      too_large = λ h. refl;
    }

-- the rows of each call, by computing them
each_call_tries : EachCallTries
unfolding rows_tried all_rows file_rows question_rows early_rows tries entry_of file_number select has_input inputs_of cells_from input_number member_of any_of count_up
each_call_tries = record {
  load = refl;
  distances = refl;
  space = λ s. refl;
  link_repair_lem = refl;
  prefix_repair_lem = refl;
  link_repair_with = refl;
  prefix_repair_with = refl;
  route_with = refl;
  route = refl;
}

files_and_networks : FilesAndNetworks
files_and_networks = record {
  written = λ net h. (written_accepted net h, written_loaded net h);
  read = λ b a. (rw (accepted_loaded b a) (accepted_limits b a), rw (accepted_loaded b a) (accepted_written b a));
}

pub the_demand_1 : Demand1
unfolding link_part prefix_part
the_demand_1 = record {
  rows = each_call_tries;
  buffers = each_is_lent;
  questions = each_question;
  files = files_and_networks;
  by_the_table = by_the_table;
  link_given = λ b k. part_given b k (links_of b) (link_entry b k);
  prefix_given = λ b k. part_given b k (prefixes_of b) (prefix_entry b k);
}
