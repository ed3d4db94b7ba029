-- What the code needs to know at a claim.
use Rattle.std.proofs.Common.{◌≡◌, ℕ, List, [], ◌∷◌, ◌++◌, append-nil, reverse, Bool, true, false, Option, Some, None, ap, sym, refl, subst, ◌∙◌, nat_eq}
use Rattle.std.specs.Prelude.{slice_get, IfSome, if◌then◌else◌}
use Rattle.std.specs.List.{All}
use Rattle.std.specs.Option.{option_or, option_map}
use Rattle.std.proofs.lemmas.Bool.{eqb-true}
use Rattle.std.proofs.lemmas.List.Elements.{All-head, All-tail}
use Rattle.std.proofs.lemmas.Option.{none-some, same_Some, slice_get_within}
use Rattle.amoebot_state.specs.declared.bot.Bot.{Bot}
use Rattle.amoebot_state.specs.declared.cell.CellName.{CellName}
use Rattle.amoebot_state.specs.declared.cell.CellName.TheVariants as name
use Rattle.amoebot_state.specs.declared.cell.Cell.{Cell}
use Rattle.amoebot_state.specs.declared.cell.Cell.TheVariants as cell
use Rattle.amoebot_state.specs.declared.verdict.Verdict.{Verdict}
use Rattle.amoebot_state.specs.declared.verdict.Verdict.TheVariants as verdict
use Rattle.amoebot_state.specs.Pairs.{Pairs, body_in}
use Rattle.amoebot_state.specs.Configs.{Config, IsValid, bot_at, value}
use Rattle.amoebot_state.specs.Refusals.{IsBotInRange}
use Rattle.amoebot_state.specs.Zones.{IsShown, shown_with, zone}
use Rattle.amoebot_state.specs.Known.{AreReadInOrder}
use Rattle.amoebot_state.proofs.Occupants.{bot_in_range}
use Rattle.claim_core.specs.declared.state.Caller.{Caller}
use Rattle.claim_core.specs.declared.state.Phase.TheVariants.{Claim}
use Rattle.claim_core.specs.Cells.{number, at}
use Rattle.claim_core.specs.Machine.{Setup, State, bot, found, next_of, phase_of_verdict, after_win, caller_with_cell, wins}
use Rattle.claim_core.specs.Soundness.{IsSetup, names, HasFront, Sound}
use Rattle.claim_core.proofs.Fronts.{Valued, whole_shown, in_order, All-reverse}
use Rattle.claim_core.proofs.Frames.{own_stays}
use Rattle.claim_core.proofs.Places.{get-set_here}
use Rattle.claim_core.proofs.HolderLemmas.{framed, same_area, is_known, valued}
use Rattle.claim_core.proofs.Claims.{wins-sound}

-- the amoebot that cells tell is the configuration's
body_told : (c : Config) (i : ℕ) (cells : Pairs) (b : Bot) → All (Valued c) cells → body_in cells i ≡ Some b → bot_at c i ≡ Some b
body_told c i [] b all e = absurd (none-some b e)
body_told c i ((name.Spot v, x) ∷ cells) b all e = body_told c i cells b (All-tail (Valued c) (name.Spot v, x) cells all) e
body_told c i ((name.Body j, cell.Spot o) ∷ cells) b all e = body_told c i cells b (All-tail (Valued c) (name.Body j, cell.Spot o) cells all) e
body_told c i ((name.Body j, cell.Body d) ∷ cells) b all e = by (body_told c i cells b (All-tail (Valued c) (name.Body j, cell.Body d) cells all)) (nat_eq j i) refl e
  where
    by : (body_in cells i ≡ Some b → bot_at c i ≡ Some b) → (t : Bool) → nat_eq j i ≡ t → option_or (if t then Some d else None) (body_in cells i) ≡ Some b → bot_at c i ≡ Some b
    by ih true same f =
        let head : value c (name.Body j) ≡ Some (cell.Body d) = All-head (Valued c) (name.Body j, cell.Body d) cells all in
        let is_b : d ≡ b = same_Some d b f in
        held (bot_at c i) (ap (λ k. option_map cell.Body (bot_at c k)) (sym (eqb-true j i same)) ∙ head) is_b
      where
        held : (o : Option Bot) → option_map cell.Body o ≡ Some (cell.Body d) → d ≡ b → o ≡ Some b
        held None f s = absurd (none-some (cell.Body d) f)
        held (Some x) f s = let one : x ≡ d = cc in ap Some (one ∙ s)
    by ih false other f = ih f

-- so it is one that may stand there
told_plain : (c : Config) (i : ℕ) (cells : Pairs) → IsValid c → All (Valued c) cells → IfSome (body_in cells i) IsBotInRange
told_plain c i cells valid all = by (body_in cells i) refl
  where
    by : (o : Option Bot) → body_in cells i ≡ o → IfSome o IsBotInRange
    by None e = tt
    by (Some b) e = bot_in_range c valid i b (body_told c i cells b all e)

module _ (g : Setup) (ok : IsSetup g) where
  pub held_plain : (s : State) (sound : Sound g s) (c : ℕ) (k : Caller) → slice_get s.callers c ≡ Some k → (i : ℕ) → IfSome (body_in (reverse k.held) i) IsBotInRange
  held_plain s sound c k there i = told_plain sound.last i (reverse k.held) (framed g ok s sound).valid (All-reverse (Valued sound.last) k.held (valued g ok s sound c k (sound.each c k there)))

  module _ (s : State) (sound : Sound g s) (c : ℕ) (k : Caller) (there : slice_get s.callers c ≡ Some k) (n : CellName) (x : Cell) (p : k.phase ≡ Claim) (next : next_of g (bot g c k.turn) k.held ≡ Some n) (free : at s.tags (number g.world.area n) ≡ Some 0) (found_x : at s.values (number g.world.area n) ≡ Some x) where
    abbrev more : Pairs
    more = (n, x) ∷ k.held

    abbrev new : State
    new = wins g c s k n (Some x)

    now_sound : Sound g new
    now_sound = wins-sound g ok s sound c k there n x p next free found_x

    now_there : slice_get new.callers c ≡ Some (caller_with_cell g c k n x)
    now_there = get-set_here s.callers c (caller_with_cell g c k n x) (slice_get_within s.callers c k there)

    -- what is told with the new cell
    pub won_plain : (i : ℕ) → IfSome (body_in (reverse more) i) IsBotInRange
    won_plain i = held_plain new now_sound c (caller_with_cell g c k n x) now_there i

    whole_by : (v : Verdict) → HasFront g new now_sound.last c (caller_with_cell g c k n x) (phase_of_verdict v) → names more ≡ zone now_sound.last (bot g c k.turn)
    whole_by verdict.Idle f = f.whole
    whole_by (verdict.Failed why) f = f.whole
    whole_by (verdict.Change change) f = f.whole

    -- the whole zone is what a configuration shows
    pub won_shown : next_of g (bot g c k.turn) more ≡ None → IsShown (found g (bot g c k.turn) more)
    won_shown none =
        let mine = now_sound.each c (caller_with_cell g c k n x) now_there in
        let front = subst (HasFront g new now_sound.last c (caller_with_cell g c k n x)) (ap (after_win g (bot g c k.turn) more) none) mine.front in
        let whole = whole_by (g.verdict (found g (bot g c k.turn) more)) front in
        let fr = framed g ok new now_sound in
        let known = is_known g ok s sound c k there in (
          now_sound.last,
          fr.valid,
          own_stays g ok c k.turn known now_sound.last fr,
          whole_shown now_sound.last (bot g c k.turn) more (valued g ok new now_sound c (caller_with_cell g c k n x) mine) whole ∙ ap (λ (d : Config). shown_with d (bot g c k.turn) (reverse more)) fr.same.rest,
        )

    rest_by : (v : Verdict) → HasFront g new now_sound.last c (caller_with_cell g c k n x) (phase_of_verdict v) → (rest : List CellName) × (names more ++ rest ≡ zone now_sound.last (bot g c k.turn))
    rest_by v f = ([], append-nil (names more) ∙ whole_by v f)

    -- the cells were read in order, the new one too
    pub won_in_order : AreReadInOrder g.world.area (bot g c k.turn) (reverse more)
    won_in_order =
        let own = bot g c k.turn in
        let mine = now_sound.each c (caller_with_cell g c k n x) now_there in
        let fr = framed g ok new now_sound in
        let there = own_stays g ok c k.turn (is_known g ok s sound c k there) now_sound.last fr in
        let front = by (next_of g own more) mine.front in
        subst (λ a. AreReadInOrder a own (reverse more)) (same_area g ok new now_sound) (in_order now_sound.last own more front.0 fr.valid there (valued g ok new now_sound c (caller_with_cell g c k n x) mine) front.1)
      where
        by : (o : Option CellName) → HasFront g new now_sound.last c (caller_with_cell g c k n x) (after_win g (bot g c k.turn) more o) → (rest : List CellName) × (names more ++ rest ≡ zone now_sound.last (bot g c k.turn))
        by None f = rest_by (g.verdict (found g (bot g c k.turn) more)) f
        by (Some m) f = (f.0 ∷ f.1.0, f.1.1)
