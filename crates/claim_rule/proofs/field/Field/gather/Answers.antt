use Rattle.std.proofs.Common.{ap, sym, ◌∙◌, arith}
use Rattle.claim_rule.specs.Tokens.{FieldOf}
use Rattle.claim_rule.specs.Views.{Seated, view_of}
use Rattle.claim_rule.proofs.SeatingLemmas.{joins_views}
use Rattle.claim_rule.proofs.field.Field.gather.Goals as goal

-- src/seating.rt
pub join_seat-requires : goal.join_seat-requires
join_seat-requires g c =
    let table = ap (λ (f : FieldOf g.row.D.Denot). f.table) (sym c.self.view_is) in
    let own = c.requires.own in
    let other = c.requires.other in (
      c.requires.field.0 ∙ table,
      c.requires.field.1 ∙ table,
      ap (λ (m : Seated g.row.D.Denot). m.1) other.1,
      omega (arith, c.self.invariant.words),
      joins_views _ _ g.W.Manner.way c.args.seat.now.id c.args.other.id _ _ own.0 other.0 (own.1 ∙ ap (λ (f : FieldOf g.row.D.Denot). view_of f.terms own.0) (sym c.self.view_is)) (ap (λ (m : Seated g.row.D.Denot). m.0) other.1 ∙ ap (λ (f : FieldOf g.row.D.Denot). view_of f.terms other.0) (sym c.self.view_is)),
    )
