-- The difference that another memory of the own amoebot makes.
use Rattle.std.proofs.Common.{◌≡◌, ◌≢◌, [], ◌∷◌, true, false, ap, sym, ◌∙◌, inl, inr, Option, Some}
use Rattle.std.specs.Prelude.{is_some}
use Rattle.std.specs.Option.{option_map}
use Rattle.std.proofs.lemmas.Bool.{cases_eq, both_ways}
use Rattle.std.proofs.lemmas.List.Elements.{All-nil, All-cons, All-head}
use Rattle.std.proofs.lemmas.Option.{same_Some}
use Rattle.amoebot_state.specs.declared.bot.Bot.{Bot}
use Rattle.amoebot_state.specs.declared.cell.CellName.{CellName}
use Rattle.amoebot_state.specs.declared.cell.CellName.TheVariants as name
use Rattle.amoebot_state.specs.declared.cell.Cell.{Cell}
use Rattle.amoebot_state.specs.declared.cell.Cell.TheVariants as cell
use Rattle.amoebot_state.specs.Configs.{Config, IsValid, bot_at, occupant, set_bot, value}
use Rattle.amoebot_state.specs.Pairs.{CellChange, Pairs, cell_of, cell_value}
use Rattle.amoebot_state.specs.Patches.{IsPatched, bot_eq, diff, rank}
use Rattle.amoebot_state.specs.Zones.{Shown, shown_alone}
use Rattle.amoebot_state.proofs.Members.{not_in_none}
use Rattle.amoebot_state.proofs.OldValues.{ordered_patch_is_diff}
use Rattle.amoebot_state.proofs.RisingLists.{none, more, increasing-from_Rising}
use Rattle.amoebot_state.proofs.Values.{value_same, bot_eq-true}
use Rattle.model_ops.specs.Drafts.{IsOwn, with_own}
use Rattle.model_ops.specs.Laws.{KeepsRest}
use Rattle.model_ops.specs.Reaches.{Reaches}
use Rattle.model_ops.proofs.Becomes.{at_other}
use Rattle.model_ops.proofs.BehindsLemmas.{spots_stay}
use Rattle.model_ops.proofs.Drafts.{own_at}
use Rattle.model_ops.proofs.KeepsRest.{reached_keeps_rest}

module _ (s : Shown) (own a : Bot) (is : IsOwn s own) (at : bot_at (shown_alone s) s.bot ≡ Some a) (valid : IsValid (shown_alone s)) (reaches : Reaches (shown_alone s) s.bot (with_own s own)) where
  abbrev old : Config
  old = shown_alone s

  abbrev new : Config
  new = with_own s own

  keeps : KeepsRest old s.bot new
  keeps = reached_keeps_rest old s.bot new valid (ap is_some at) reaches

  -- each other cell stays
  spot_kept : (n : CellName) → n ≢ name.Body s.bot → value new n ≡ value old n
  spot_kept (name.Spot v) ne =
      ap (λ o. Some (cell.Spot o)) (ap (λ (b : Bot). occupant (set_bot old s.bot b) v) is.memory ∙ spots_stay old s.bot is.found own.mem is.at v)
  spot_kept (name.Body j) ne = ap (option_map cell.Body) (at_other old s.bot own j (λ e. ne (ap name.Body e)))

  abbrev Given : CellName × Cell → Type 0
  Given p = value new (cell_of p) ≡ Some (cell_value p)

  abbrev Differs : CellName × Cell → Type 0
  Differs p = value old (cell_of p) ≢ Some (cell_value p)

  abbrev Found : CellChange → Type 0
  Found t = value old t.0 ≡ Some t.1

  -- where it is the same, nothing differs
  all_kept : a ≡ own → (n : CellName) → value new n ≡ value old n
  all_kept same (name.Spot v) =
      ap (λ o. Some (cell.Spot o)) (ap (λ (b : Bot). occupant (set_bot old s.bot b) v) is.memory ∙ spots_stay old s.bot is.found own.mem is.at v)
  all_kept same (name.Body j) = ap (option_map cell.Body) (elim (cases_eq j s.bot) [
    | inl e ↦ ap (bot_at new) e ∙ own_at s own is ∙ ap Some (sym same) ∙ sym (ap (bot_at old) e ∙ at)
    | inr ne ↦ at_other old s.bot own j ne
  ])

  pub nothing_differs : bot_eq a own ≡ true → [] ≡ diff old new
  nothing_differs t =
      let patched : IsPatched old [] new = record { valid = keeps.valid; same = keeps.same; given = All-nil Given; kept = λ n lacks. all_kept (bot_eq-true a own t) n } in
      ordered_patch_is_diff old new [] valid patched (increasing-from_Rising (λ (p : CellName × Cell). rank (cell_of p)) [] none) (All-nil Differs) (All-nil Found)

  -- and else its body alone
  pub body_differs : bot_eq a own ≡ false → (let t : CellChange = (name.Body s.bot, cell.Body a, cell.Body own) in t ∷ []) ≡ diff old new
  body_differs f =
      let p : CellName × Cell = (name.Body s.bot, cell.Body own) in
      let t : CellChange = (name.Body s.bot, cell.Body a, cell.Body own) in
      let ps : Pairs = p ∷ [] in
      let patched : IsPatched old ps new = record {
        valid = keeps.valid;
        same = keeps.same;
        given = All-cons Given p [] (ap (option_map cell.Body) (own_at s own is)) (All-nil Given);
        kept = λ n lacks. spot_kept n (λ e. All-head (λ (q : CellName × Cell). cell_of q ≢ n) p [] lacks (sym e));
      } in
      let other : value old (name.Body s.bot) ≢ Some (cell.Body own) = λ h.
      let same : a ≡ own = same_body a own (sym (ap (option_map cell.Body) at) ∙ h) in
      both_ways _ f (ap (bot_eq a) (sym same) ∙ value_same (Some (cell.Body a))) in
      ordered_patch_is_diff old new (t ∷ []) valid patched
      (increasing-from_Rising (λ (q : CellName × Cell). rank (cell_of q)) ps (more (λ y has. absurd (not_in_none has)) none))
      (All-cons Differs p [] other (All-nil Differs))
      (All-cons Found t [] (ap (option_map cell.Body) at) (All-nil Found))
    where
      same_body : (x y : Bot) → (let o : Option Cell = Some (cell.Body x) in o) ≡ Some (cell.Body y) → x ≡ y
      same_body x y e = let same = same_Some (cell.Body x) (cell.Body y) e in cc
