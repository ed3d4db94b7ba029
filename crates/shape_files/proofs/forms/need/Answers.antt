use Rattle.std.proofs.Common.{Err, sym, ap, ◌∙◌}
use Rattle.text_tokens.specs.declared.refusal.Refusal.{Refusal}
use Rattle.text_tokens.proofs.StepsLemmas.{stays, gives_as}
use Rattle.shape_files.specs.DocumentReaders.{body}
use Rattle.shape_files.specs.Views.{contents}
use Rattle.shape_files.specs.Straight.{needed_section}
use Rattle.shape_files.proofs.StraightLemmas.{needed_comes, needed_missing}
use Rattle.shape_files.proofs.forms.need.Goals as goal

pub returns-then-not-is_next : goal.returns-then-not-is_next
returns-then-not-is_next c =
    let s = contents c.args.parts.now in
    let e = needed_missing c.args.section s c.args.tokens.now.last c.args.tokens.now.ahead (sym c.is_next.ensures ∙ c.if-not-is_next.true) in
    rw c.into.ensures (e ∙ ap (λ (r : Refusal). Err r) (sym c.missing.ensures), stays c.args.tokens.now)

pub returns : goal.returns
returns c =
    let s = contents c.args.parts.now in
    gives_as _ (needed_section c.args.section s) (body c.args.section s) c.args.tokens.now c.read_section.new.tokens c.read_section.result (needed_comes c.args.section s c.args.tokens.now.last c.args.tokens.now.ahead (sym c.is_next.ensures ∙ c.if-not-is_next.false)) c.read_section.ensures
