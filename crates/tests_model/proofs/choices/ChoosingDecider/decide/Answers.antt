use Rattle.std.proofs.Common.{◌≡◌, ◌∙◌, ◌&&◌, ap}
use Rattle.std.specs.Prelude.{nat_le, if◌then◌else◌}
use Rattle.std.specs.List.{count_by}
use Rattle.amoebot_state.specs.declared.verdict.Verdict.TheVariants as verdict
use Rattle.small_worlds.specs.Marking.{marking}
use Rattle.tests_model.specs.Choosing.{is_other_with}
use Rattle.tests_model.proofs.choices.ChoosingDecider.decide.Goals as goal

pub returns : goal.returns
returns c =
    let s = c.args.found.now in
    let d = c.args.self.now in
    let many : c.others_with-count.result ≡ count_by (is_other_with s.bot d.value) s.cells =
    c.others_with-count.ensures
    ∙ ap (λ b. count_by (is_other_with b d.value) c.cells.result.now) c.bot.ensures
    ∙ ap (λ cells. count_by (is_other_with s.bot d.value) cells) c.cells.ensures.value in
    c.decided.ensures ∙ ap (λ t. if t then marking s else verdict.Idle) (c.fits-chosen.ensures ∙ ap (λ n. nat_le d.least n && nat_le n d.most) many)
