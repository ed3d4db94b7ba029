-- What a caller knows of its turn once one more cell is won: it has room for the cell, which was read in zone order.
use Rattle.std.proofs.Common.{◌≡◌, ℕ, ◌<◌, List, [], ◌∷◌, ◌++◌, reverse, length, ap, sym, subst, ◌∙◌, arith, Bool}
use Rattle.std.proofs.lemmas.List.{reverse-reverse, length-reverse}
use Rattle.tri_lattice.specs.Extent.{Extent}
use Rattle.amoebot_state.specs.declared.cell.CellName.{CellName}
use Rattle.amoebot_state.specs.declared.cell.Cell.{Cell}
use Rattle.amoebot_state.specs.declared.verdict.Verdict.{Verdict}
use Rattle.amoebot_state.specs.Configs.{Config}
use Rattle.amoebot_state.specs.Known.{AreReadInOrder}
use Rattle.amoebot_state.specs.Limits.{most_cells}
use Rattle.amoebot_state.specs.Pairs.{Pairs}
use Rattle.amoebot_state.specs.Zones.{Shown}
use Rattle.claim_rule.specs.declared.views.Note.{Note}
use Rattle.claim_rule.specs.Views.{Seated}
use Rattle.claim_rule.specs.Manners.{CommitWay}
use Rattle.claim_rule.specs.Tokens.{IsActivation, IsClaiming, frame_of}
use Rattle.claim_rule.proofs.ActivationLemmas.{last_first}

module _ {D : Type 0} {way : CommitWay} (verdict : D → Shown → Verdict) (m : Seated D) (c t b : ℕ) (s : Bool) (area : Extent) (maxes : List ℕ) (cells : Pairs) (n : CellName) (x : Cell) (notes : List Note)
    (is : IsActivation verdict way m c t b s (frame_of area maxes) ((n, x) ∷ reverse cells) notes) (claims : IsClaiming verdict m t b ((n, x) ∷ reverse cells)) where
  turned : reverse ((n, x) ∷ reverse cells) ≡ cells ++ (n, x) ∷ []
  turned = ap reverse (sym (last_first cells (n, x))) ∙ reverse-reverse (cells ++ (n, x) ∷ [])

  pub in_order : AreReadInOrder area b (cells ++ (n, x) ∷ [])
  in_order = subst (λ (q : Extent × Pairs). AreReadInOrder q.0 b q.1) (λ i. (ap (λ (w : Config). w.area) (sym is.world) i, turned i)) claims.known.order

  pub has_room : length cells < most_cells
  has_room = let few = claims.known.few in omega (arith, few, length-reverse cells)
