-- `load_entries` answers with the first of rows 6 to 9 that applies, and with the links of the file where none does.
use Rattle.std.proofs.Common.{◌≡◌, ◌∙◌, sym}
use Rattle.std.proofs.lemmas.Result.{err_from_is_err_and}
use Rattle.std.proofs.Math.Option.{none}
use Rattle.lfa.specs.File.{Bytes, network_of}
use Rattle.lfa.specs.Refusal.{file_returned, first_row}
use Rattle.block.specs.Judged.{block_rows}
use Rattle.block.specs.Laws.Sized.{blocks_passed}
use Rattle.metric.specs.declared.columns.Links.{Links}
use Rattle.network_file.specs.Struct.{links_struct_of}
use Rattle.network_file.specs.Load.{verdict_decided}
use Rattle.network_file.specs.Entry.{LinksOf}
use Rattle.network_file.proofs.LinkLaws.{few_links}
use Rattle.network_file.proofs.LoadLaws.{blocks_pass, links_refuse, links_pass}
use Rattle.network_file.proofs.load_entries.Goals as goal

-- the links are those of the file
read : (b : Bytes) (l : Links) → first_row (file_returned b) block_rows ≡ none → l ≡ links_struct_of (network_of b) → LinksOf b l
read b l pass is = record { sized = blocks_passed b pass; same = is }

pub fill_links-links-requires : goal.fill_links-links-requires
fill_links-links-requires c = blocks_passed _ c.requires

pub judge_links-requires : goal.judge_links-requires
judge_links-requires c = few_links _ _ (read _ _ c.requires c.fill_links-links.ensures)

pub returns-in_err-judge_links-clause-row : goal.returns-in_err-judge_links-clause-row
unfolding verdict_decided
returns-in_err-judge_links-clause-row c =
    let p = err_from_is_err_and c.from_residual.result c.from_residual.ensures.1 in
    let of = read _ _ c.requires c.fill_links-links.ensures in
    rw (p.1, p.2) (sym (blocks_pass _ c.requires ∙ links_refuse _ _ (sym (c.in_err-judge_links.ensures _ of))))

pub judge_prefixes-requires : goal.judge_prefixes-requires
judge_prefixes-requires c = read _ _ c.requires c.fill_links-links.ensures

pub returns-in_err-judge_prefixes-clause-row : goal.returns-in_err-judge_prefixes-clause-row
unfolding verdict_decided
returns-in_err-judge_prefixes-clause-row c =
    let p = err_from_is_err_and c.from_residual-in_err-judge_prefixes.result c.from_residual-in_err-judge_prefixes.ensures.1 in
    let of = read _ _ c.requires c.fill_links-links.ensures in
    rw (p.1, p.2) (c.in_err-judge_prefixes.ensures ∙ sym (blocks_pass _ c.requires ∙ links_pass _ (sym (c.in_ok-judge_links.ensures _ of))))

pub returns-clause-row : goal.returns-clause-row
unfolding verdict_decided
returns-clause-row c =
    let of = read _ _ c.requires c.fill_links-links.ensures in
    c.in_ok-judge_prefixes.ensures ∙ sym (blocks_pass _ c.requires ∙ links_pass _ (sym (c.in_ok-judge_links.ensures _ of)))
