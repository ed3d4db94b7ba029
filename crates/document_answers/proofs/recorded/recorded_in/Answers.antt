use Rattle.std.proofs.Common.{Some, ap, sym, ◌∙◌}
use Rattle.shape_files.specs.Views.{contents}
use Rattle.document_answers.proofs.RecordedLemmas.{plain_else, taken}
use Rattle.document_answers.proofs.recorded.recorded_in.Goals as goal

pub journal_in-requires : goal.journal_in-requires
journal_in-requires c = plain_else (contents c.args.parts) c.requires.sections.2

pub returns : goal.returns
returns c =
    let by = taken (contents c.args.parts) c.unwrap-start.result c.journal_in.result c.requires.together c.unwrap-start.ensures c.journal_in.ensures in
    record {
      program = c.unwrap.ensures ∙ ap Some (sym c.new-runner.ensures);
      start = c.unwrap-start.ensures;
      last = c.unwrap-last.ensures;
      entries = by.entries;
      journal = by.journal;
      bots = by.bots;
    }
