use Rattle.std.proofs.Common.{◌∷◌, ap, sym, ◌∙◌, arith}
use Rattle.claim_rule.specs.Tokens.{FieldOf}
use Rattle.claim_rule.specs.Views.{view_of}
use Rattle.claim_rule.proofs.SeatingLemmas.{splits_view}
use Rattle.claim_rule.proofs.field.Field.deal.Goals as goal

-- src/seating.rt
pub split_seat-requires : goal.split_seat-requires
split_seat-requires g c = let some = c.requires.some in
    (c.requires.field ∙ ap (λ (f : FieldOf g.row.D.Denot). f.table) (sym c.self.view_is), omega (arith, c.self.invariant.words), splits_view _ _ g.W.Manner.way c.args.seat.now.id _ some.0 some.1 (some.2 ∙ ap (λ (f : FieldOf g.row.D.Denot). view_of f.terms (some.0 ∷ some.1)) (sym c.self.view_is)))
