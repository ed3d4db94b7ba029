use Rattle.std.proofs.Common.{◌≡◌, ◌≤◌, ◌∷◌, ◌++◌, [], ℕ, zero, suc, List, ap, sym, subst, refl, ◌∙◌, length, get_or, arith}
use Rattle.amoebot_state.specs.declared.verdict.Change.{Change}
use Rattle.amoebot_state.specs.declared.verdict.Entry.{Entry}
use Rattle.amoebot_state.specs.declared.verdict.Verdict.{Verdict}
use Rattle.amoebot_state.specs.declared.verdict.Verdict.TheVariants as verdict
use Rattle.amoebot_state.specs.Configs.{Config}
use Rattle.amoebot_state.specs.Zones.{Shown, shown}
use Rattle.amoebot_state.specs.Laws.{StepHasOneResult}
use Rattle.amoebot_state.specs.Steps.{Step, change_of, entry_of}
use Rattle.amoebot_state.specs.declared.verdict.Turned.{Turned}
use Rattle.amoebot_state.specs.declared.verdict.Turned.TheVariants as turned
use Rattle.amoebot_state.specs.SerialTurns.{SerialTurn, IsOfTurn}
use Rattle.claim_core.specs.declared.marks.Mark.{Mark}
use Rattle.claim_core.specs.Turns.{CallerLists, bot_of_turn}
use Rattle.claim_core.specs.SerialRuns.{Left, SerialRun, MakesTurn, mark_at, entries_by, all_turns, left_by}
use Rattle.claim_core.proofs.laws.serial_run_is_determined.Goals as goal

-- what f decides on the turn's amoebot
decided_on : (f : Shown → Verdict) (turn bot : ℕ) (old new : Config) (e : Entry) → Step f old e new → IsOfTurn 0 turn bot e → f (shown old bot) ≡ verdict.Change (change_of e)
decided_on f turn bot old new e step of = subst (λ b. f (shown old b) ≡ verdict.Change (change_of e)) of.of step.decided

-- entries of one turn with one change are one
same_entry : (turn bot : ℕ) (e x : Entry) → IsOfTurn 0 turn bot e → IsOfTurn 0 turn bot x → verdict.Change (change_of e) ≡ verdict.Change (change_of x) → e ≡ x
same_entry turn bot e x one two same =
    let change : change_of e ≡ change_of x = cc in
    by_parts e.caller x.caller e.turn x.turn e.bot x.bot (change_of e) (change_of x) (one.by ∙ sym two.by) (one.at ∙ sym two.at) (one.of ∙ sym two.of) change
  where
    by_parts : (c d t u b o : ℕ) (one two : Change) → c ≡ d → t ≡ u → b ≡ o → one ≡ two → entry_of c t b one ≡ entry_of d u o two
    by_parts c d t u b o one two callers turns bots changes = cc

-- the turn on a world is determined
turn_alike : StepHasOneResult → (f : Shown → Verdict) (turn bot : ℕ) (old : Config) (t u : Turned) (one two : Config) → SerialTurn f 0 turn bot old t one → SerialTurn f 0 turn bot old u two → (t ≡ u) × (one ≡ two)
turn_alike law f turn bot old (turned.Done e) (turned.Done x) one two first second =
    let same = same_entry turn bot e x first.1 second.1 (sym (decided_on f turn bot old one e first.0 first.1) ∙ decided_on f turn bot old two x second.0 second.1) in
    (ap turned.Done same, law f old e one two first.0 (subst (λ y. Step f old y two) (sym same) second.0))
turn_alike law f turn bot old (turned.Done e) turned.Idle one two first second = absurd (let d = decided_on f turn bot old one e first.0 first.1 in cc (d, second.0))
turn_alike law f turn bot old (turned.Done e) (turned.Failed why) one two first second = absurd (let d = decided_on f turn bot old one e first.0 first.1 in cc (d, second.0))
turn_alike law f turn bot old turned.Idle (turned.Done x) one two first second = absurd (let d = decided_on f turn bot old two x second.0 second.1 in cc (d, first.0))
turn_alike law f turn bot old turned.Idle turned.Idle one two first second = (refl, first.1 ∙ sym second.1)
turn_alike law f turn bot old turned.Idle (turned.Failed why) one two first second = absurd (cc (first.0, second.0))
turn_alike law f turn bot old (turned.Failed why) (turned.Done x) one two first second = absurd (let d = decided_on f turn bot old two x second.0 second.1 in cc (d, first.0))
turn_alike law f turn bot old (turned.Failed why) turned.Idle one two first second = absurd (cc (first.0, second.0))
turn_alike law f turn bot old (turned.Failed why) (turned.Failed other) one two first second = (cc (first.0, second.0), first.1 ∙ sym second.1)

-- what is left, by its parts
abbrev the_left : List Mark → List Entry → Config → Left
the_left marks entries world = record { marks = marks; entries = entries; world = world }

-- and so is what it leaves
left_alike : StepHasOneResult → (f : Shown → Verdict) (lists : CallerLists) (turn : ℕ) (old one two : Left) → MakesTurn f lists turn old one → MakesTurn f lists turn old two → one ≡ two
left_alike law f lists turn old one two first second =
    let same = turn_alike law f turn (bot_of_turn lists 0 turn) old.world first.turned second.turned one.world two.world first.made second.made in
    parts one.marks two.marks one.entries two.entries one.world two.world
    (first.marks ∙ ap (λ t. old.marks ++ mark_at (length old.entries) t ∷ []) same.0 ∙ sym second.marks)
    (first.entries ∙ ap (λ t. old.entries ++ entries_by t) same.0 ∙ sym second.entries)
    same.1
  where
    parts : (ms ns : List Mark) (es fs : List Entry) (w v : Config) → ms ≡ ns → es ≡ fs → w ≡ v → the_left ms es w ≡ the_left ns fs v
    parts ms ns es fs w v marks entries world = cc

determined : StepHasOneResult → (f : Shown → Verdict) (w0 : Config) (lists : CallerLists) (turns : ℕ) (one two : Left) → SerialRun f w0 lists turns one → SerialRun f w0 lists turns two → one ≡ two
determined law f w0 lists zero one two first second = first ∙ sym second
determined law f w0 lists (suc turns) one two first second =
    let same = determined law f w0 lists turns first.0 second.0 first.1 second.1 in
    left_alike law f lists turns first.0 one two first.2 (subst (λ l. MakesTurn f lists turns l two) (sym same) second.2)

-- lists of at most one caller's marks are told by that caller's
same_marks : (xs ys : List (List Mark)) → length xs ≡ length ys → length xs ≤ 1 → get_or xs 0 [] ≡ get_or ys 0 [] → xs ≡ ys
same_marks [] [] alike few own = refl
same_marks [] (y ∷ ys) alike few own = absurd (omega arith)
same_marks (x ∷ xs) [] alike few own = absurd (omega arith)
same_marks (x ∷ []) (y ∷ []) alike few own = ap (λ z. z ∷ []) own
same_marks (x ∷ []) (y ∷ z ∷ ys) alike few own = absurd (omega arith)
same_marks (x ∷ z ∷ xs) (y ∷ ys) alike few own = absurd (omega arith)

pub returns-clause-left : goal.returns-clause-left
returns-clause-left c = determined c.step_has_one_result.ensures

pub returns-clause-report : goal.returns-clause-report
returns-clause-report c f w0 lists one two few good other first second =
    let same = determined c.step_has_one_result.ensures f w0 lists (all_turns lists) (left_by one) (left_by two) first second in
    (ap (λ l. l.world) same, ap (λ l. l.entries) same, same_marks one.turns.marks two.turns.marks (good.marks.callers ∙ sym other.marks.callers) (omega (arith, good.marks.callers)) (ap (λ l. l.marks) same))
