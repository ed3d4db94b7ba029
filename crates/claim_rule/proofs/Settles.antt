-- What a record says of nodes' words, once its turn has its mark.
use Rattle.std.proofs.Common.{◌≡◌, ℕ, ◌<◌, ◌≤◌, ◌⊎◌, List, [], ◌∷◌, ◌++◌, map, length, Option, Some, None, inl, inr, ap, sym, refl, ◌∙◌, arith}
use Rattle.std.specs.Prelude.{slice_get, slice_index}
use Rattle.std.specs.List.{All}
use Rattle.std.proofs.lemmas.List.Elements.{All-head, All-tail}
use Rattle.std.proofs.lemmas.Option.{none-some, slice_get_within}
use Rattle.tri_lattice.specs.declared.node.Node.{Node}
use Rattle.amoebot_state.specs.declared.cell.CellName.{CellName}
use Rattle.amoebot_state.specs.declared.cell.CellName.TheVariants as name
use Rattle.amoebot_state.specs.declared.cell.Cell.{Cell}
use Rattle.amoebot_state.specs.declared.cell.Cell.TheVariants as cell
use Rattle.amoebot_state.specs.Pairs.{Pairs}
use Rattle.amoebot_state.specs.Configs.{Config}
use Rattle.claim_core.specs.declared.marks.Mark.{Mark}
use Rattle.claim_core.specs.declared.marks.Mark.TheVariants as mark
use Rattle.claim_core.specs.Cells.{number, at}
use Rattle.claim_core.specs.Good.{place_of}
use Rattle.claim_core.specs.Machine.{Setup, State, own_tag, patched_pair}
use Rattle.claim_core.specs.Soundness.{IsHeld}
use Rattle.amoebot_state.proofs.Stays.{slice_get-pushed}
use Rattle.claim_rule.specs.declared.views.Note.{Note}
use Rattle.claim_rule.specs.Words.{word_occ, word_stamp}
use Rattle.claim_rule.specs.Manners.{by_journal, first_slotted}
use Rattle.claim_rule.specs.Stands.{IsWon, AreWon, AreWords}
use Rattle.claim_rule.proofs.Tables.{node_number}

-- nodes that are won stay so with the values of a patch
pub won_renewed : (patch : Pairs) (F : CellName × Cell → Type 0) (P Q : Node → Cell → Note → Type 0) → ((v : Node) (x y : Cell) (w : Note) → F (name.Spot v, x) → P v x w → Q v y w) → (held : Pairs) (ws : List Note) → All F held → AreWon P held ws → AreWon Q (map (patched_pair patch) held) ws
won_renewed patch F P Q f [] ws all is = is
won_renewed patch F P Q f ((name.Spot v, x) ∷ held) ws all is = (is.0, is.1, is.2, f v x _ is.0 (All-head F (name.Spot v, x) held all) is.3, won_renewed patch F P Q f held is.1 (All-tail F (name.Spot v, x) held all) is.4)
won_renewed patch F P Q f ((name.Body i, x) ∷ held) ws all is = won_renewed patch F P Q f held ws (All-tail F (name.Body i, x) held all) is

module _ (g : Setup) (core : State) (words later : List ℕ) (are : AreWords by_journal g core words) (same : (k : ℕ) → k < first_slotted by_journal g.world → slice_index later k ≡ slice_index words k) (last : Config) (c t : ℕ) (marks : List Mark) (count : length marks ≡ t) (m : Mark) (place : place_of m ≡ length core.journal) where
  -- the stamp of a node that is held is at most the journal's length
  bound : (v : Node) (x : Cell) (w : Note) → IsHeld g core last c t (name.Spot v, x) → IsWon g words t marks v x w → w.stamp ≤ length core.journal
  bound v x w held is = by (number g.world.area (name.Spot v)) refl
    where
      by : (o : Option ℕ) → number g.world.area (name.Spot v) ≡ o → w.stamp ≤ length core.journal
      by None e = absurd (none-some (own_tag g c t) (sym (ap (at core.tags) e) ∙ held.tag))
      by (Some k) e = let a = (are.node k (node_number g v k e)).stamp in let b = is.stamp k e in omega (arith, a, b)

  only_mark : (u : Mark) → slice_get (marks ++ m ∷ []) t ≡ Some u → m ≡ u
  only_mark u e = elim (slice_get-pushed marks m u t e) [
    | inl was ↦ (let lt = slice_get_within marks t u was in absurd (omega (arith, lt, count)))
    | inr now ↦ now.1
  ]

  pub settled_now : (v : Node) (x y : Cell) (w : Note) → (IsWon g words t marks v x w → (y ≡ cell.Spot w.occ) ⊎ ((p : ℕ) × (slice_get (marks ++ m ∷ []) t ≡ Some (mark.Done p))))
      → IsHeld g core last c t (name.Spot v, x) → IsWon g words t marks v x w → IsWon g later t (marks ++ m ∷ []) v y w
  settled_now v x y w value held is = record {
    node = is.node;
    occ = λ i e. ap word_occ (same i (node_number g v i e)) ∙ is.occ i e;
    stamp = λ i e. ap word_stamp (same i (node_number g v i e)) ∙ is.stamp i e;
    settled = λ u e. let a = bound v x w held is in let b = ap place_of (only_mark u e) in omega (arith, a, b, place);
    value = value is;
  }
