-- What a site stands for as long as it has no draft.
use Rattle.std.proofs.Common.{◌≡◌, ◌≢◌, ◌<◌, ℕ, ℤ, List, set, get_or, length, map, Bool, true, false, ap, sym, ◌∙◌, refl, subst, Option, Some, None, Ok, Err, Result, nat_eq}
use Rattle.std.specs.Prelude.{IsSome, slice_get, unsigned_abs, if◌then◌else◌}
use Rattle.std.specs.Option.{option_map}
use Rattle.std.proofs.lemmas.Bool.{eqb-true}
use Rattle.std.proofs.lemmas.List.{set-set, set-get_or}
use Rattle.std.proofs.lemmas.List.Elements.{All-contains}
use Rattle.std.proofs.lemmas.Option.{none-some, same_Some, slice_get-get_or}
use Rattle.amoebot_state.specs.declared.bot.Bot.{Bot}
use Rattle.amoebot_state.specs.declared.bot.Port.{Port}
use Rattle.amoebot_state.specs.declared.cell.CellName.{CellName}
use Rattle.amoebot_state.specs.declared.cell.CellName.TheVariants as name
use Rattle.amoebot_state.specs.declared.cell.Cell.{Cell}
use Rattle.amoebot_state.specs.declared.cell.Cell.TheVariants as cell
use Rattle.amoebot_state.specs.declared.verdict.Failure.{Failure}
use Rattle.amoebot_state.specs.declared.verdict.Failure.TheVariants as failure
use Rattle.amoebot_state.specs.declared.found.Behind.{Behind}
use Rattle.amoebot_state.specs.Around.{behind_pair}
use Rattle.amoebot_state.specs.Configs.{Config, bot_at, bot_of, set_bot, value}
use Rattle.amoebot_state.specs.Pairs.{Pairs, body_at, cell_of, cell_value}
use Rattle.amoebot_state.specs.Refusals.{IsBotInRange}
use Rattle.amoebot_state.specs.Zones.{Shown, IsShown, shown, shown_alone, zone}
use Rattle.amoebot_state.proofs.Fronts.{Has-from_slice_get}
use Rattle.amoebot_state.proofs.Known.{shown_lists_zone, shown_holds_values}
use Rattle.amoebot_state.proofs.Members.{Has, Has-map, Contains-from_Has}
use Rattle.amoebot_state.proofs.Occupants.{bot_in_range}
use Rattle.amoebot_state.proofs.Options.{there_is}
use Rattle.amoebot_state.proofs.ShownAlone.{alone_has}
use Rattle.model_ops.specs.Behinds.{owner_there}
use Rattle.model_ops.specs.Drafts.{IsOwn, copy_in, own_written, with_own}
use Rattle.model_ops.specs.Operations.{is_value, need, owner, with_value, write}
use Rattle.model_ops.specs.WorkingCopies.{WorkingCopy, opened, own_id, copy_after}
use Rattle.model_ops.proofs.Answered.{refused, passed}
use Rattle.model_ops.proofs.Becomes.{at_own, at_other}
use Rattle.model_ops.proofs.BehindsLemmas.{owner_is_there, owner_pair, pair_stays}
use Rattle.model_ops.proofs.Told.{bot_is}

-- another memory of the own amoebot leaves what is behind the pairs
pub behind_own : (s : Shown) (own : Bot) → IsOwn s own → (p : Port) → behind_pair (with_own s own) s.bot p ≡ behind_pair (shown_alone s) s.bot p
behind_own s own is p =
    let c = shown_alone s in
    ap (λ (b : Bot). behind_pair (set_bot c s.bot b) s.bot p) is.memory ∙ pair_stays c s.bot is.found own.mem is.at s.bot p

-- the own amoebot is there
pub own_at : (s : Shown) (own : Bot) → IsOwn s own → bot_at (with_own s own) s.bot ≡ Some own
own_at s own is = at_own (shown_alone s) s.bot is.found own is.at

pub own_near : (s : Shown) (own : Bot) (n : ℕ) → IsSome (bot_at (shown_alone s) n) → n ≡ s.bot → bot_at (with_own s own) n ≡ Some own
own_near s own n has e =
    let c = shown_alone s in
    let (b, at) = there_is (bot_at c n) has in
    ap (bot_at (with_own s own)) e ∙ at_own c s.bot b own (ap (bot_at c) (sym e) ∙ at)

pub other_near : (s : Shown) (own b : Bot) (n : ℕ) → n ≢ s.bot → bot_at (shown_alone s) n ≡ Some b → bot_at (with_own s own) n ≡ Some b
other_near s own b n ne at = at_other (shown_alone s) s.bot own n ne ∙ at

-- at first it is as it was found
pub own_found : (s : Shown) (own : Bot) → bot_at (shown_alone s) s.bot ≡ Some own → own_written s own ≡ opened s
own_found s own at =
    let c = shown_alone s in
    let made : List (Option Bot) → WorkingCopy = λ os. record { found = s; reached = record c { bots = os } } in
    ap (λ o. made (set c.bots s.bot o)) (sym at) ∙ ap made (set-get_or c.bots s.bot None)

pub own_first : (s : Shown) (own : Bot) → Some own ≡ bot_at (shown_alone s) s.bot → IsBotInRange own → IsOwn s own
own_first s own at in_range = record { found = own; at = sym at; memory = refl; in_range = in_range }

-- and so it is with another memory
pub own_with : (s : Shown) (own b : Bot) (x k : ℕ) → IsOwn s own → b ≡ with_value own x k → IsBotInRange b → IsOwn s b
own_with s own b x k is same in_range = record {
  found = is.found;
  at = is.at;
  memory =
      let again : Bot → Bot = λ y. record is.found { mem = y.mem } in
      same ∙ ap (λ (y : Bot). with_value y x k) is.memory ∙ ap again (sym same);
  in_range = in_range;
}

-- a write of the own memory
pub own_write : (s : Shown) (own : Bot) (x : ℕ) (v : ℤ) → IsOwn s own → write (with_own s own) s.bot None x v ≡ need (is_value s.maxes x v) failure.OutOfRange (Ok (with_own s (with_value own x (unsigned_abs v))))
own_write s own x v is =
    let c = shown_alone s in
    let made : List (Option Bot) → Result Config Failure = λ os. need (is_value s.maxes x v) failure.OutOfRange (Ok (record c { bots = os })) in
    ap (λ (b : Bot). need (is_value s.maxes x v) failure.OutOfRange (Ok (set_bot (with_own s own) s.bot (with_value b x (unsigned_abs v))))) (bot_is (with_own s own) s.bot own (own_at s own is))
    ∙ ap made (set-set c.bots s.bot (Some own) (Some (with_value own x (unsigned_abs v))))

module _ (s : Shown) (own : Bot) (d : Option WorkingCopy) (w : WorkingCopy) (is : IsOwn s own) (none : d ≡ None) (seen : copy_in s own d ≡ w) where
  -- without one the copy is what was found, with the own amoebot as it has become
  pub no_draft : own_written s own ≡ w
  no_draft = ap (copy_in s own) (sym none) ∙ seen

  -- what is behind a pair
  pub behind_is : (p : Port) (x : Behind) → x ≡ behind_pair (shown_alone s) s.bot p → x ≡ behind_pair w.reached (own_id w) p
  behind_is p x e = e ∙ sym (behind_own s own is p) ∙ ap (λ (v : WorkingCopy). behind_pair v.reached (own_id v) p) no_draft

  -- its occupant
  pub owner_is : (p : Port) (x : Behind) (r : Result ℕ Failure) → x ≡ behind_pair (shown_alone s) s.bot p → r ≡ owner_there x → r ≡ owner w.reached (own_id w) (Some p)
  owner_is p x r e told = told ∙ ap owner_there (behind_is p x e) ∙ owner_pair w.reached (own_id w) p

  -- is there
  pub owner_found : (p : Port) (x : Behind) (n : ℕ) → x ≡ behind_pair (shown_alone s) s.bot p → (let q : Result ℕ Failure = Ok n in q) ≡ owner_there x → IsSome (bot_at (shown_alone s) n)
  owner_found p x n e told = let c = shown_alone s in owner_is_there c c s.bot p (Ok n) (told ∙ ap owner_there e) refl

  -- an amoebot that is there
  pub bot_here : (n : ℕ) (b : Bot) → bot_at (with_own s own) n ≡ Some b → bot_of w.reached n ≡ b
  bot_here n b at = ap (λ (v : WorkingCopy). bot_of v.reached n) (sym no_draft) ∙ bot_is (with_own s own) n b at

  pub own_here : bot_at w.reached (own_id w) ≡ Some own
  own_here = ap (λ (v : WorkingCopy). bot_at v.reached (own_id v)) (sym no_draft) ∙ own_at s own is

  -- a write of the own memory
  pub write_here : (x : ℕ) (v : ℤ) → write w.reached (own_id w) None x v ≡ need (is_value s.maxes x v) failure.OutOfRange (Ok (with_own s (with_value own x (unsigned_abs v))))
  write_here x v = ap (λ (u : WorkingCopy). write u.reached (own_id u) None x v) (sym no_draft) ∙ own_write s own x v is

  pub write_fails : (x : ℕ) (v : ℤ) (f : Failure) → (let r : Result Bot Failure = Err f in r) ≡ need (is_value s.maxes x v) failure.OutOfRange (Ok (with_value own x (unsigned_abs v))) → Err f ≡ write w.reached (own_id w) None x v
  write_fails x v f e = refused _ _ _ _ _ e ∙ sym (write_here x v)

  pub write_made : (x : ℕ) (v : ℤ) (b : Bot) → (let r : Result Bot Failure = Ok b in r) ≡ need (is_value s.maxes x v) failure.OutOfRange (Ok (with_value own x (unsigned_abs v))) → (b ≡ with_value own x (unsigned_abs v)) × (write w.reached (own_id w) None x v ≡ Ok (with_own s b))
  write_made x v b e =
      let pass = passed _ _ _ _ _ e in
      (pass.0, write_here x v ∙ pass.1 ∙ ap (λ (y : Bot). Ok (with_own s y)) (sym pass.0))

  pub copy_made : (x : ℕ) (v : ℤ) (b : Bot) → write w.reached (own_id w) None x v ≡ Ok (with_own s b) → copy_in s b d ≡ copy_after w (write w.reached (own_id w) None x v)
  copy_made x v b made =
      ap (copy_in s b) none
      ∙ ap (λ (u : WorkingCopy). let y : WorkingCopy = record u { reached = with_own s b } in y) no_draft
      ∙ ap (copy_after w) (sym made)

-- a body among the cells of what is shown is its amoebot
held : (o : Option Bot) (b : Bot) → option_map cell.Body o ≡ Some (cell.Body b) → o ≡ Some b
held None b e = absurd (none-some (cell.Body b) e)
held (Some a) b e = let same = same_Some (cell.Body a) (cell.Body b) e in cc

body_told : (p : CellName × Cell) (i : ℕ) (b : Bot) → body_at p.0 p.1 i ≡ Some b → p ≡ (name.Body i, cell.Body b)
body_told (name.Spot v, x) i b e = absurd (none-some b e)
body_told (name.Body j, cell.Spot o) i b e = absurd (none-some b e)
body_told (name.Body j, cell.Body a) i b e = by_id (nat_eq j i) refl e
  where
    by_id : (t : Bool) → nat_eq j i ≡ t → (if t then Some a else None) ≡ Some b → (let p : CellName × Cell = (name.Body j, cell.Body a) in p) ≡ (name.Body i, cell.Body b)
    by_id true same e = let is = same_Some a b e in (λ u. (name.Body (eqb-true j i same u), cell.Body (is u)))
    by_id false same e = absurd (none-some b e)

pub body_listed : (s : Shown) (cells : Pairs) (k i : ℕ) (b : Bot) (d : CellName × Cell) → IsShown s → cells ≡ s.cells → k < length cells → body_at (get_or cells k d).0 (get_or cells k d).1 i ≡ Some b → (bot_at (shown_alone s) i ≡ Some b) × IsBotInRange b
body_listed s cells k i b d (c, valid, mine, e) these lt told =
    let p = get_or cells k d in
    let is = body_told p i b told in
    let those = (shown c s.bot).cells in
    let found : slice_get s.cells k ≡ Some p = ap (λ (ps : Pairs). slice_get ps k) (sym these) ∙ slice_get-get_or cells k d lt in
    let has : Has p those = subst (λ (t : Shown). Has p t.cells) (sym e) (Has-from_slice_get s.cells k p found) in
    let holds : value c (cell_of p) ≡ Some (cell_value p) = All-contains (λ (q : CellName × Cell). value c (cell_of q) ≡ Some (cell_value q)) those p (shown_holds_values c s.bot) (Contains-from_Has those has) in
    let body : value c (name.Body i) ≡ Some (cell.Body b) = subst (λ (q : CellName × Cell). value c (cell_of q) ≡ Some (cell_value q)) is holds in
    let there : bot_at c i ≡ Some b = held (bot_at c i) b body in
    let named : Has (name.Body i) (zone c s.bot) = subst (Has (name.Body i)) (shown_lists_zone c s.bot) (subst (λ (q : CellName × Cell). Has (cell_of q) (map cell_of those)) is (Has-map cell_of has)) in
    (ap (λ (t : Shown). bot_at (shown_alone t) i) (sym e) ∙ alone_has c s.bot i named ∙ there, bot_in_range c valid i b there)
