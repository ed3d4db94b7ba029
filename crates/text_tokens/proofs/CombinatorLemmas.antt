-- The laws of each combinator, as its public function states them.
use Rattle.std.proofs.Common.{ℕ, List, sym, ◌∙◌}
use Rattle.text_tokens.specs.Text.{Lexeme}
use Rattle.text_tokens.specs.Reading.{Reader, deep_at, past_sum}
use Rattle.text_tokens.specs.Grammar.{Lang}
use Rattle.text_tokens.specs.Lawful.{Exact, IsDecided}
use Rattle.text_tokens.specs.Combinators.{ExactLaw, InputLaw, NothingLaw, OneLaw, OneStarts, OpeningLaw, SumLaw, MadeLaw, MadeStarts, SameLaw, JudgementLaw, JudgementStarts, SequenceLaw, SequenceLawful, SequenceStarts, BehindTokenLaw, ClosingLaw, ChoiceLaw, BranchLaw, RefusalLaw, StoppingLaw, EitherLaw, OptionLaw, RoleLaw, LimitLaw, LimitStarts, TimesLaw, RepetitionLaw, RepetitionSteps, ChainedLaw, LevelsLaw}
use Rattle.text_tokens.proofs.Exactness as exactness
use Rattle.text_tokens.proofs.CarriedTexts as carrying
use Rattle.text_tokens.proofs.SequenceLemmas as following
use Rattle.text_tokens.proofs.Parts as parts
use Rattle.text_tokens.proofs.StartsLemmas as beginnings
use Rattle.text_tokens.proofs.ChoiceLemmas as choosing
use Rattle.text_tokens.proofs.RepeatedLemmas as repeating
use Rattle.text_tokens.proofs.InputLemmas as enclosing

pub decided : {A : Type 0} (P : Lang A) (p : Reader A) → Exact P p → IsDecided P
decided P p exact = record { some = λ last ts. (p last ts, exact.tells last ts); one = λ last ts r s g h. sym (exact.only last ts r g) ∙ exact.only last ts s h }

pub exact_law : {A : Type 0} (P : Lang A) (p : Reader A) → ExactLaw P p
exact_law P p law = let e = exactness.exact P p law in (e, decided P p e)

pub input_law : {A : Type 0} (P : Lang A) (p : Reader A) → InputLaw P p
input_law P p kind law = let e = exactness.exact P p law in (enclosing.exact_input P kind p e, enclosing.decided_input P kind p e)

pub nothing_law : {A : Type 0} (a : A) → NothingLaw a
nothing_law a = parts.part_nothing a

pub one_law : OneLaw
one_law test over passing passes = parts.part_one test over passing passes

pub one_starts : OneStarts
one_starts test over = beginnings.starts_one test over

pub opening_law : OpeningLaw
opening_law test passing passes levels = parts.part_one test (deep_at levels) passing passes

pub sum_law : SumLaw
sum_law test passing passes weight most so_far = parts.part_one test (past_sum weight most so_far) passing passes

pub made_law : {A B : Type 0} (P : Lang A) (p : Reader A) (f : A → B) → MadeLaw P p f
made_law P p f stop part = carrying.part_made P f p stop part

pub made_starts : {A B : Type 0} (P : Lang A) (f : A → B) → MadeStarts P f
made_starts P f starts over start = beginnings.starts_made P f starts over start

pub same_law : {A : Type 0} (P : Lang A) (p : Reader A) (R : Lang A) → SameLaw P p R
same_law P p R into back stop part = carrying.part_same P R into back p stop part

pub judgement_law : {A : Type 0} (P : Lang A) (p : Reader A) → JudgementLaw P p
judgement_law P p wrong stop part = parts.part_judged P p wrong stop part

pub judgement_starts : {A : Type 0} (P : Lang A) → JudgementStarts P
judgement_starts P wrong starts over start = beginnings.starts_judged P wrong starts over start

pub sequence_law : {A B : Type 0} (P : Lang A) (p : Reader A) (Q : A → Lang B) (q : A → Reader B) → SequenceLaw P p Q q
sequence_law P p Q q between stop s = parts.part_then P p Q q between stop s

pub sequence_lawful : {A B : Type 0} (P : Lang A) (p : Reader A) (Q : A → Lang B) (q : A → Reader B) → SequenceLawful P p Q q
sequence_lawful P p Q q law_p law_q some apart = following.law_then P Q some p q law_p law_q apart

pub sequence_starts : {A B : Type 0} (P : Lang A) (Q : A → Lang B) → SequenceStarts P Q
sequence_starts P Q starts over start some = beginnings.starts_then P Q starts over start some

pub behind_token_law : {B : Type 0} (Q : Lexeme → Lang B) (q : Lexeme → Reader B) → BehindTokenLaw Q q
behind_token_law Q q test over passing passes stop some part = parts.part_after test over passing passes Q q stop some part

pub closing_law : {A : Type 0} (P : Lang A) (p : Reader A) → ClosingLaw P p
closing_law P p closes passing passes part = parts.part_closed P p closes passing passes part

pub choice_law : {A : Type 0} (R : Lang A) → ChoiceLaw R
choice_law R by branches = choosing.law_choose R by branches

pub branch_law : {A : Type 0} (P : Lang A) (p : Reader A) (R : Lang A) → BranchLaw P p R
branch_law P p R next b law = choosing.law_branch next P R b p law

pub refusal_law : {A : Type 0} (R : Lang A) → RefusalLaw R
refusal_law R next some foreign = choosing.law_refuse next R some foreign

pub stopping_law : {A : Type 0} (R : Lang A) → StoppingLaw R
stopping_law R t kind stopped = choosing.law_stop t kind R stopped

pub either_law : {A : Type 0} (P : Lang A) (p : Reader A) (Q : Lang A) (q : Reader A) → EitherLaw P p Q q
either_law P p Q q starts over stop c = choosing.part_either P Q p q starts over stop c

pub option_law : {A : Type 0} (P : Lang A) (p : Reader A) → OptionLaw P p
option_law P p a starts over stop start part ends = choosing.part_optional a P p starts over stop start part ends

pub role_law : {A K : Type 0} (P : K → Lang A) (p : K → Reader A) (R : Lang A) → RoleLaw P p R
role_law P p R role over stop roles handled = choosing.part_roles role over P R roles p stop handled

pub limit_law : {A : Type 0} (P : Lang A) (p : Reader A) → LimitLaw P p
limit_law P p starts over stop start part room = choosing.part_limited P p starts over start stop part room

pub limit_starts : {A : Type 0} (P : Lang A) → LimitStarts P
limit_starts P starts over start room = beginnings.starts_limited P starts over start room

pub times_law : {A : Type 0} (P : Lang A) (p : Reader A) → TimesLaw P p
times_law P p part n = repeating.part_times P p part n

pub repetition_law : {A S : Type 0} (E : S → Lang A) (element : S → Reader A) (step : S → A → S) → RepetitionLaw E element step
repetition_law E element step starts between stop e s = repeating.part_repeated E element step starts between stop e s

pub repetition_steps : {A S : Type 0} (E : S → Lang A) (element : S → Reader A) (step : S → A → S) → RepetitionSteps E element step
repetition_steps E element step starts between stop e s last ts = repeating.steps_repeated E element step starts between stop e s last ts

pub chained_law : {F A B S : Type 0} (P : Lang F) (p : Reader F) (E : Lexeme → S → Lang A) (element : Lexeme → S → Reader A) (step : S → A → S) (start : F → S) (whole : F → List A → B) → ChainedLaw P p E element step start whole
chained_law P p E element step start whole separates between stop j = repeating.part_chained P p separates E element between stop j step start whole

pub levels_law : {K : Type 0} {A : K → Type 0} (P : ℕ → (k : K) → Lang (A k)) (level : ℕ → ((k : K) → Reader (A k)) → (k : K) → Reader (A k)) → LevelsLaw P level
levels_law P level stop one n k = enclosing.part_levels P level stop one n k
