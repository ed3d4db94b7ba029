-- What decides by acts keeps the laws of deciders, and with the guard on keeps occupied nodes connected.
use Rattle.std.proofs.Common.{◌≡◌, ℕ, sym, ◌∙◌, refl, subst}
use Rattle.std.specs.Prelude.{IsSome}
use Rattle.amoebot_state.specs.Pairs.{Triples, plain_patch}
use Rattle.amoebot_state.specs.Configs.{Config, IsValid, bot_at}
use Rattle.amoebot_state.specs.Patches.{IsPatched}
use Rattle.amoebot_state.specs.Zones.{IsShown, shown, shown_alone}
use Rattle.amoebot_state.specs.Steps.{IsLawfulPatch, change_of}
use Rattle.amoebot_state.proofs.ShownAlone.{shown_alone_shows_the_same}
use Rattle.amoebot_state.proofs.Patched.{patched_is_unique}
use Rattle.amoebot_state.proofs.Shows.{shown_valid}
use Rattle.model_ops.specs.Deciders.{ActsFor}
use Rattle.model_ops.specs.Laws.{ActsKeepDeciderLaws, GuardedDecidersStayConnected, LeadsAlso, StaysConnected}
use Rattle.model_ops.proofs.SameDiff.{reached_diff_is_exact, reached_leads_also}
use Rattle.model_ops.proofs.StaysConnected.{reached_stays_connected}
use Rattle.model_ops.proofs.CopiesStand.{gap_there}

-- the acts that make a change lead from each configuration that shows it too
acts_lead : (c : Config) (i : ℕ) (patch : Triples) → IsValid c → IsSome (bot_at c i) → (by : ActsFor (shown c i) patch) → LeadsAlso (shown_alone (shown c i)) i by.acts by.reached c
acts_lead c i patch valid there by =
    let s = shown c i in
    let is : IsShown s = (c, valid, there, refl) in
    reached_leads_also (shown_alone s) c i by.acts by.reached (shown_valid s is) valid (gap_there s is) (sym (shown_alone_shows_the_same s is)) by.performed

-- and the patch is what they change there
acts_keep : (c : Config) (i : ℕ) (patch : Triples) → IsValid c → IsSome (bot_at c i) → ActsFor (shown c i) patch → IsLawfulPatch c i patch
acts_keep c i patch valid there by =
    let also = acts_lead c i patch valid there by in
    let exact = reached_diff_is_exact c i also.reached valid there (by.acts, also.performed) in
    let K : Triples → Type 0 = λ ts. IsLawfulPatch c i ts in
    let P : Triples → Type 0 = λ ts. IsPatched c (plain_patch ts) also.reached in
    subst K (also.same ∙ sym by.is) (record { touches = exact.listed; leads = (also.reached, subst P (sym also.same) also.patched); ordered = exact.ordered; differs = exact.differs; found = exact.found })

pub acts_keep_decider_laws : ActsKeepDeciderLaws
acts_keep_decider_laws f decides c i change by = acts_keep c i change.patch by.valid by.there (decides (shown c i) change (c, by.valid, by.there, refl) by.decided)

pub guarded_deciders_stay_connected : GuardedDecidersStayConnected
guarded_deciders_stay_connected f old e new decides valid step =
    let (by, on) = decides (shown old e.bot) (change_of e) (old, valid, step.there, refl) step.decided in
    let also = acts_lead old e.bot e.patch valid step.there by in
    let P : Triples → Type 0 = λ ts. IsPatched old (plain_patch ts) also.reached in
    let one : also.reached ≡ new = patched_is_unique old also.reached new (plain_patch e.patch) (subst P (sym by.is) also.patched) step.patched in
    let Q : Config → Type 0 = λ d. StaysConnected old d in
    subst Q one (reached_stays_connected old e.bot by.acts also.reached valid step.there on also.performed)
