-- A working copy stands for each configuration that shows what was found.
use Rattle.std.proofs.Common.{◌≡◌, ℕ, List, [], ◌∷◌, ◌++◌, false, ap, sym, ◌∙◌, refl, subst}
use Rattle.std.specs.Prelude.{IsSome, is_some}
use Rattle.std.specs.declared.result.Result.{Result}
use Rattle.std.specs.declared.result.Result.TheVariants.{Ok}
use Rattle.amoebot_state.specs.declared.verdict.Failure.{Failure}
use Rattle.amoebot_state.specs.declared.verdict.Moved.TheVariants as moved
use Rattle.amoebot_state.specs.Configs.{Config, bot_at}
use Rattle.amoebot_state.specs.Pairs.{plain_patch}
use Rattle.amoebot_state.specs.Zones.{Shown, IsShown, shown, shown_alone}
use Rattle.amoebot_state.proofs.ShownAlone.{shown_alone_shows_the_same, alone_own}
use Rattle.amoebot_state.proofs.Patched.{patched_is_unique}
use Rattle.amoebot_state.proofs.Shows.{shown_valid}
use Rattle.model_ops.specs.Operations.{and_then, write}
use Rattle.model_ops.specs.Reaches.{Writing, Acts, Reaches, ReachesUnmoved, write_all, move, perform}
use Rattle.model_ops.specs.WorkingCopies.{own_id, changes}
use Rattle.model_ops.specs.Laws.{CopiesWork, CopyStandsForWorlds}
use Rattle.model_ops.proofs.Told.{then_told}
use Rattle.model_ops.proofs.KeepsRest.{own_there}
use Rattle.model_ops.proofs.ShownAlike.{shown_meets_the_same}
use Rattle.model_ops.proofs.SameDiff.{reached_leads_also}

-- one part behind another
pub then_is : {A B : Type 0} (r : Result A Failure) (next : A → Result B Failure) (x : A) (y : B) → r ≡ Ok x → next x ≡ Ok y → and_then r next ≡ Ok y
then_is r next x y e f = ap (λ s. and_then s next) e ∙ f

-- writes alone are acts
abbrev writing : List Writing → Acts
writing ws = record { writes = ws; guard = false; moved = moved.None }

pub unmoved_reaches : (c : Config) (i : ℕ) (d : Config) → ReachesUnmoved c i d → Reaches c i d
unmoved_reaches c i d (ws, e) = (writing ws, then_is (write_all c i ws) Ok d d e refl)

-- one write more
pub one_more : (c : Config) (i : ℕ) (ws : List Writing) (w : Writing) (m d : Config) → write_all c i ws ≡ Ok m → write m i w.port w.var w.value ≡ Ok d → write_all c i (ws ++ w ∷ []) ≡ Ok d
one_more c i [] w m d e f = then_is (write c i w.port w.var w.value) Ok d d (ap (λ r. and_then r (λ x. write x i w.port w.var w.value)) e ∙ f) refl
one_more c i (v ∷ ws) w m d e f =
    let (n, first, rest) = then_told (write c i v.port v.var v.value) _ m e in
    then_is (write c i v.port v.var v.value) (λ x. write_all x i (ws ++ w ∷ [])) n d first (one_more n i ws w m d rest f)

pub copies_work : CopiesWork
copies_work = record {
  opens = λ s is.
      let still : ReachesUnmoved (shown_alone s) s.bot (shown_alone s) = ([], refl) in
      (record { shown = is; reached = unmoved_reaches (shown_alone s) s.bot (shown_alone s) still }, still);
  writes = λ w p x s d works (ws, e) f.
      let still : ReachesUnmoved (shown_alone w.found) (own_id w) d = (ws ++ record { port = p; var = x; value = s } ∷ [], one_more (shown_alone w.found) (own_id w) ws (record { port = p; var = x; value = s }) w.reached d e f) in
      (record { shown = works.shown; reached = unmoved_reaches (shown_alone w.found) (own_id w) d still }, still);
  moves = λ w guard m d works (ws, e) f.
      record { shown = works.shown; reached = (record { writes = ws; guard = guard; moved = m }, then_is (write_all (shown_alone w.found) (own_id w) ws) (λ x. move x (own_id w) guard m) w.reached d e f) };
}

-- what was found is shown by the configuration that has it and no other amoebot, to an amoebot of it
pub gap_there : (s : Shown) → IsShown s → IsSome (bot_at (shown_alone s) s.bot)
gap_there s (c, valid, has, is) = subst (λ (t : Shown). IsSome (bot_at (shown_alone t) s.bot)) is (ap (λ o. is_some o) (alone_own c s.bot _ (own_there c s.bot has)))

pub copy_stands_for_worlds : CopyStandsForWorlds
copy_stands_for_worlds w d works valid same =
    let i = own_id w in
    let s = w.found in
    let c = shown_alone s in
    let shows : shown d i ≡ shown c i = same ∙ sym (shown_alone_shows_the_same s works.shown) in
    let there = gap_there s works.shown in
    let valid_c = shown_valid s works.shown in
    let (first, e) = works.reached in
    let also = reached_leads_also c d i first w.reached valid_c valid there shows e in
    let same_acts : (acts : Acts) → perform c i acts ≡ Ok w.reached → perform d i acts ≡ Ok also.reached = λ acts f.
    let more = reached_leads_also c d i acts w.reached valid_c valid there shows f in
    more.performed ∙ ap Ok (patched_is_unique d more.reached also.reached (plain_patch (changes w)) more.patched also.patched) in
    record {
      reached = also.reached;
      same_acts = same_acts;
      patched = also.patched;
      same_changes = also.same;
      alike = λ still.
          let (ws, f) = still in
          let (m, g, last) = then_told (write_all d i ws) _ also.reached (same_acts (writing ws) (then_is (write_all c i ws) Ok w.reached w.reached f refl)) in
          (shown_meets_the_same c d i valid_c valid there shows).behind ws w.reached also.reached f (g ∙ last);
    }
