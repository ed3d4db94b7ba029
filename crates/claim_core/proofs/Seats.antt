-- The callers as the code keeps them: seats and marks beside each other.
use Rattle.std.proofs.Common.{◌≡◌, ℕ, zero, suc, ◌+◌, ◌*◌, ◌<◌, List, [], ◌∷◌, ◌++◌, map, reverse, length, get_or, set, Some, inl, inr, ap, sym, refl, subst, ◌∙◌, arith, length-append}
use Rattle.std.specs.Prelude.{slice_get, nat_lt, if◌then◌else◌, replicate}
use Rattle.std.specs.List.{All}
use Rattle.std.proofs.lemmas.List.Elements.{All-contains, All-nil, All-cons, All-head, All-tail}
use Rattle.std.proofs.lemmas.List.{length-reverse, nil_from_length}
use Rattle.std.proofs.lemmas.Bool.{cases_eq}
use Rattle.std.proofs.lemmas.Option.{none-some, same_Some}
use Rattle.tri_lattice.specs.Extent.{Extent}
use Rattle.amoebot_state.specs.Pairs.{Pairs}
use Rattle.amoebot_state.specs.Ways.{reading}
use Rattle.amoebot_state.proofs.Members.{Contains-from_Has}
use Rattle.amoebot_state.proofs.Fronts.{Has-from_slice_get}
use Rattle.claim_core.specs.Turns.{CallerLists, bot_of_turn}
use Rattle.claim_core.specs.declared.marks.Mark.{Mark}
use Rattle.claim_core.specs.declared.machine.CoreCaller.{CoreCaller}
use Rattle.claim_core.specs.declared.state.Phase.TheVariants as phase
use Rattle.claim_core.specs.declared.state.Caller.{Caller}
use Rattle.claim_core.specs.Machine.{Setup, freeing_caller, fresh}
use Rattle.claim_core.proofs.Places.{get-set_else}
use Rattle.claim_core.specs.Cores.{KeepsZone, KeepZones, caller_with, callers_with, Begins, Frees, unmarked}

pub length-callers : (ss : List CoreCaller) (ms : List (List Mark)) → length ms ≡ length ss → length (callers_with ss ms) ≡ length ss
length-callers [] ms e = refl
length-callers (s ∷ ss) [] e = absurd (omega arith)
length-callers (s ∷ ss) (m ∷ ms) e = ap suc (length-callers ss ms (omega arith))

pub callers-at : (ss : List CoreCaller) (ms : List (List Mark)) (c : ℕ) (s : CoreCaller) → length ms ≡ length ss → c < length ss → s ≡ get_or ss c s → slice_get (callers_with ss ms) c ≡ Some (caller_with s (get_or ms c []))
callers-at [] ms c s e lt read = absurd (omega arith)
callers-at (x ∷ ss) [] c s e lt read = absurd (omega arith)
callers-at (x ∷ ss) (m ∷ ms) zero s e lt read = ap (λ y. Some (caller_with y m)) (sym read)
callers-at (x ∷ ss) (m ∷ ms) (suc c) s e lt read = callers-at ss ms c s (omega arith) (omega arith) read

pub callers-set : (ss : List CoreCaller) (ms : List (List Mark)) (c : ℕ) (s : CoreCaller) → callers_with (set ss c s) ms ≡ set (callers_with ss ms) c (caller_with s (get_or ms c []))
callers-set [] ms c s = refl
callers-set (x ∷ ss) [] zero s = refl
callers-set (x ∷ ss) [] (suc c) s = refl
callers-set (x ∷ ss) (m ∷ ms) zero s = refl
callers-set (x ∷ ss) (m ∷ ms) (suc c) s = ap (λ ks. caller_with x m ∷ ks) (callers-set ss ms c s)

pub callers-set_both : (ss : List CoreCaller) (ms : List (List Mark)) (c : ℕ) (s : CoreCaller) (m : List Mark) → length ms ≡ length ss → callers_with (set ss c s) (set ms c m) ≡ set (callers_with ss ms) c (caller_with s m)
callers-set_both [] ms c s m e = refl
callers-set_both (x ∷ ss) [] c s m e = absurd (omega arith)
callers-set_both (x ∷ ss) (y ∷ ms) zero s m e = refl
callers-set_both (x ∷ ss) (y ∷ ms) (suc c) s m e = ap (λ ks. caller_with x y ∷ ks) (callers-set_both ss ms c s m (omega arith))

pub callers-marks_at : (ss : List CoreCaller) (ms : List (List Mark)) (c : ℕ) (k : Caller) → slice_get (callers_with ss ms) c ≡ Some k → get_or ms c [] ≡ k.marks
callers-marks_at [] ms c k e = absurd (none-some k e)
callers-marks_at (s ∷ ss) [] c k e = absurd (none-some k e)
callers-marks_at (s ∷ ss) (m ∷ ms) zero k e = ap (λ (j : Caller). j.marks) (same_Some (caller_with s m) k e)
callers-marks_at (s ∷ ss) (m ∷ ms) (suc c) k e = callers-marks_at ss ms c k e

pub callers-marks : (ss : List CoreCaller) (ms : List (List Mark)) → length ms ≡ length ss → map (λ (k : Caller). k.marks) (callers_with ss ms) ≡ ms
callers-marks [] [] e = refl
callers-marks [] (m ∷ ms) e = absurd (omega arith)
callers-marks (s ∷ ss) [] e = absurd (omega arith)
callers-marks (s ∷ ss) (m ∷ ms) e = ap (λ xs. m ∷ xs) (callers-marks ss ms (omega arith))

-- a seat that frees its cells is the caller that does
pub frees-is : (g : Setup) (old new : CoreCaller) (marks : List Mark) → Frees g.lists.turns old new → caller_with new marks ≡ freeing_caller g old.turn (reverse old.held.items) marks
frees-is g old new marks is = by (reverse old.held.items) refl
  where
    by : (held : Pairs) → reverse old.held.items ≡ held → caller_with new marks ≡ freeing_caller g old.turn held marks
    by [] e =
        let none : old.held.items ≡ [] = nil_from_length old.held.items (sym (length-reverse old.held.items) ∙ ap (λ (h : Pairs). length h) e) in
        let b = is.0 none in
        λ i. record { turn = b.turn i; phase = (b.phase ∙ ap (λ t. if nat_lt t g.lists.turns then phase.Claim else phase.Ended) refl) i; held = ap reverse b.held i; marks = marks }
    by (p ∷ held) e =
        let some : 0 < length old.held.items = omega (arith, length-reverse old.held.items, ap (λ (h : Pairs). length h) e) in
        let b = is.1 some in
        λ i. record { turn = b.turn i; phase = b.phase i; held = (ap reverse b.held ∙ e) i; marks = marks }

-- one turn more has its mark
pub unmarked-set : (turns c : ℕ) (ms : List (List Mark)) (m : Mark) → c < length ms → length (get_or ms c []) < turns → unmarked turns (set ms c (get_or ms c [] ++ m ∷ [])) + 1 ≡ unmarked turns ms
unmarked-set turns c [] m inside lt = absurd (omega arith)
unmarked-set turns zero (x ∷ ms) m inside lt = omega (arith, length-append x (m ∷ []))
unmarked-set turns (suc c) (x ∷ ms) m inside lt = let ih = unmarked-set turns c ms m (omega arith) lt in omega arith

-- the callers have ended where the seats have
pub seats_ended : (ss : List CoreCaller) (ms : List (List Mark)) → length ms ≡ length ss → All (λ (s : CoreCaller). s.phase ≡ phase.Ended) ss → All (λ (k : Caller). k.phase ≡ phase.Ended) (callers_with ss ms)
seats_ended [] ms e all = All-nil (λ (k : Caller). k.phase ≡ phase.Ended)
seats_ended (s ∷ ss) [] e all = absurd (omega arith)
seats_ended (s ∷ ss) (m ∷ ms) e all = All-cons (λ (k : Caller). k.phase ≡ phase.Ended) (caller_with s m) (callers_with ss ms) (All-head (λ (x : CoreCaller). x.phase ≡ phase.Ended) s ss all) (seats_ended ss ms (omega arith) (All-tail (λ (x : CoreCaller). x.phase ≡ phase.Ended) s ss all))

pub callers_ended : (ss : List CoreCaller) (ms : List (List Mark)) → length ms ≡ length ss → All (λ (k : Caller). k.phase ≡ phase.Ended) (callers_with ss ms) → All (λ (s : CoreCaller). s.phase ≡ phase.Ended) ss
callers_ended [] ms e all = All-nil (λ (s : CoreCaller). s.phase ≡ phase.Ended)
callers_ended (s ∷ ss) [] e all = absurd (omega arith)
callers_ended (s ∷ ss) (m ∷ ms) e all = All-cons (λ (x : CoreCaller). x.phase ≡ phase.Ended) s ss (All-head (λ (k : Caller). k.phase ≡ phase.Ended) (caller_with s m) (callers_with ss ms) all) (callers_ended ss ms (omega arith) (All-tail (λ (k : Caller). k.phase ≡ phase.Ended) (caller_with s m) (callers_with ss ms) all))

-- callers before their first turn
pub callers_fresh : (g : Setup) (ss : List CoreCaller) (ids : List (List ℕ)) → length ss ≡ length ids → All (Begins g.lists.turns 0) ss → callers_with ss (replicate (length ids) []) ≡ map (λ (_ : List ℕ). fresh g) ids
callers_fresh g [] [] e all = refl
callers_fresh g [] (i ∷ ids) e all = absurd (omega arith)
callers_fresh g (s ∷ ss) [] e all = absurd (omega arith)
callers_fresh g (s ∷ ss) (i ∷ ids) e all =
    let b = All-head (Begins g.lists.turns 0) s ss all in
    λ j. record { turn = b.turn j; phase = b.phase j; held = ap reverse b.held j; marks = [] } ∷ callers_fresh g ss ids (omega arith) (All-tail (Begins g.lists.turns 0) s ss all) j

pub unmarked-none : (turns n : ℕ) → unmarked turns (replicate n []) ≡ n * turns
unmarked-none turns zero = omega arith
unmarked-none turns (suc n) = let ih = unmarked-none turns n in omega arith

-- ---- what is known of their zones

-- the seats keep it where one of them is replaced by one that does
pub zones_set : (a : Extent) (lists : CallerLists) (ss : List CoreCaller) (i c : ℕ) (new : CoreCaller) → i ≡ c → KeepZones a lists ss → KeepsZone a lists c new → KeepZones a lists (set ss i new)
zones_set a lists ss i c new same zones mine = λ d s there. elim (cases_eq d i) [
  | inl e ↦
      let one : new ≡ s = set_here ss i s (subst (λ k. slice_get (set ss i new) k ≡ Some s) e there) in
      subst (KeepsZone a lists d) one (subst (λ k. KeepsZone a lists k new) (sym (e ∙ same)) mine)
  | inr ne ↦ zones d s (sym (get-set_else ss i d new ne) ∙ there)
]
  where
    set_here : (xs : List CoreCaller) (k : ℕ) (s : CoreCaller) → slice_get (set xs k new) k ≡ Some s → new ≡ s
    set_here [] k s e = absurd (none-some s e)
    set_here (x ∷ xs) zero s e = same_Some new s e
    set_here (x ∷ xs) (suc k) s e = set_here xs k s e

-- a seat that frees its cells, or begins its next turn
pub frees_zone : (a : Extent) (lists : CallerLists) (c turns : ℕ) (old new : CoreCaller) → Frees turns old new → KeepsZone a lists c new
frees_zone a lists c turns old new is claims some = by old.held.items refl
  where
    not_both : phase.Claim ≡ phase.Releasing → ⊥
    not_both e = cc

    by : (held : Pairs) → old.held.items ≡ held → new.zone ≡ reading a (bot_of_turn lists c new.turn) new.held.items
    by [] e = absurd (omega (arith, some, ap (λ (h : Pairs). length h) (is.0 e).held))
    by (p ∷ held) e =
        let stays = is.1 (omega (arith, ap (λ (h : Pairs). length h) e)) in
        absurd (not_both (sym claims ∙ stays.phase))

-- seats before their first turn hold nothing
pub fresh_zones : (a : Extent) (lists : CallerLists) (turns : ℕ) (ss : List CoreCaller) → All (Begins turns 0) ss → KeepZones a lists ss
fresh_zones a lists turns ss all = λ c s there claims some.
    let b = All-contains (Begins turns 0) ss s all (Contains-from_Has ss (Has-from_slice_get ss c s there)) in
    absurd (omega (arith, some, ap (λ (h : Pairs). length h) b.held))
