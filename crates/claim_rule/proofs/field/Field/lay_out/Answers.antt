use Rattle.std.proofs.Common.{◌∙◌, List, length, ap}
use Rattle.claim_rule.specs.Views.{field_terms}
use Rattle.claim_rule.proofs.Opens.{opens, is_field, words_count, slots_count}
use Rattle.claim_rule.proofs.field.Field.lay_out.Goals as goal

-- src/field.rt
pub new-requires : goal.new-requires
new-requires g c =
    opens g.D.Decider.verdict (field_terms c.args.decider.now c.args.world c.args.lists.now) g.W.Manner.way (record { valid = c.keeps.ensures.valid; few = c.keeps.ensures.few; lists = c.callers-callers.ensures.lists; bots = c.requires.bots; touches = c.touches_zone.ensures; leads = c.has_next.ensures }) c.as_slice.result.now c.args.slots.items (c.as_slice.ensures.value ∙ c.requires.words) c.requires.slots

pub invariant_of-field : goal.invariant_of-field
invariant_of-field g c =
    let ok = c.in-Ok.ensures.ok in
    let terms = field_terms c.args.decider.now c.args.world c.args.lists.now in
    is_field g.D.Decider.verdict terms g.W.Manner.way _ (λ i. field_terms (ok.5 i).decider.now (ok.5 i).world (ok.5 i).lists.now) (record { valid = c.keeps.ensures.valid; few = c.keeps.ensures.few; lists = c.callers-callers.ensures.lists; bots = c.requires.bots; touches = c.touches_zone.ensures; leads = c.has_next.ensures })
    (ok.0 ∙ ap (λ (ws : List _). length ws) (c.as_slice.ensures.value ∙ c.requires.words) ∙ words_count g.W.Manner.way c.args.world) (ok.1 ∙ slots_count g.D.Decider.verdict terms g.W.Manner.way c.args.slots.items c.requires.slots)
