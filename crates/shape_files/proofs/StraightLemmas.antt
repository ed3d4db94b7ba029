-- A section that is needed, or may come, by the next token; and a form read straight on is read as the frame reads it.
use Rattle.std.proofs.Common.{◌≡◌, Bool, true, false, cond, List, [], ◌∷◌, Ok, Err, refl, sym, ap, ◌∙◌}
use Rattle.text_tokens.specs.declared.refusal.Refusal.{Refusal}
use Rattle.text_tokens.specs.declared.refusal.RefusalKind.TheVariants.{Unexpected, WrongSection}
use Rattle.text_tokens.specs.Text.{Lexeme}
use Rattle.text_tokens.specs.Cursor.{next_passes, refusal_at}
use Rattle.text_tokens.specs.Reading.{Answer, Reader, answer_and_then, ◌>>=◌, pure, stop, refuse, either}
use Rattle.shape_files.specs.declared.section_kind.Section.{Section}
use Rattle.shape_files.specs.declared.section_kind.Section.TheVariants.{Program, Shape, Lists, Schedule, Journal, Final, Turns}
use Rattle.shape_files.specs.declared.section_kind.Form.{Form}
use Rattle.shape_files.specs.declared.section_kind.Form.TheVariants.{Run, Interleave, Replay, Check, Measure}
use Rattle.shape_files.specs.Frame.{Course, ends, needs, may, may_schedule, may_lists, behind_journal, course_of, is_word_of_section, is_section_word}
use Rattle.shape_files.specs.FrameReaders.{rest_at, rest}
use Rattle.shape_files.specs.Documents.{Contents}
use Rattle.shape_files.specs.DocumentReaders.{body}
use Rattle.shape_files.specs.Straight.{missing_kind, needed_section, optional_section, left, callers, record_behind, behind_program, straight}

-- ---- by the next token

module _ (k : Section) (s : Contents) (last : Refusal) where
  pub needed_comes : (ts : List Lexeme) → next_passes (is_word_of_section k) ts ≡ true → needed_section k s last ts ≡ body k s last ts
  unfolding needed_section
  needed_comes [] e = absurd cc
  needed_comes (t ∷ ts) e = rw e refl

  pub needed_missing : (ts : List Lexeme) → next_passes (is_word_of_section k) ts ≡ false → needed_section k s last ts ≡ Err (refusal_at last (missing_kind ts) ts)
  unfolding needed_section
  needed_missing [] e = refl
  needed_missing (t ∷ ts) e = rw e (by (is_section_word t))
    where
      by : (b : Bool) → cond {A = Reader Contents} b (stop WrongSection) refuse last (t ∷ ts) ≡ Err (record { line = t.line; kind = cond b WrongSection Unexpected })
      by true = refl
      by false = refl

-- ---- readers that answer the same

abbrev Same : {A : Type 0} → Reader A → Reader A → Type 0
Same p q = (last : Refusal) (ts : List Lexeme) → p last ts ≡ q last ts

same_then : {A B : Type 0} (p : Reader A) (q r : A → Reader B) → ((a : A) → Same (q a) (r a)) → Same (p >>= q) (p >>= r)
same_then {A} {B} p q r same last ts = by (p last ts)
  where
    by : (x : Answer A) → answer_and_then x (λ a us. q a last us) ≡ answer_and_then x (λ a us. r a last us)
    by (Ok x) = same x.0 last x.1
    by (Err x) = refl

regrouped : {A B C : Type 0} (p : Reader A) (q : A → Reader B) (r : B → Reader C) → Same ((p >>= q) >>= r) (p >>= λ a. q a >>= r)
regrouped {A} {B} {C} p q r last ts = by (p last ts)
  where
    by : (x : Answer A) → answer_and_then (answer_and_then x (λ a us. q a last us)) (λ b us. r b last us) ≡ answer_and_then x (λ a us. answer_and_then (q a last us) (λ b vs. r b last vs))
    by (Ok x) = refl
    by (Err x) = refl

-- ---- the frame's steps

abbrev Next : Course → Contents → Reader Contents
Next c s = rest body c s

next_needs : (k : Section) (c : Course) (s : Contents) → Same (Next (needs k c) s) (needed_section k s >>= λ r. Next c r)
unfolding rest_at needed_section
next_needs k c s last [] = refl
next_needs k c s last (t ∷ ts) = by (is_word_of_section k t) (is_section_word t) refl refl
  where
    by : (a b : Bool) → is_word_of_section k t ≡ a → is_section_word t ≡ b → Next (needs k c) s last (t ∷ ts) ≡ (needed_section k s >>= λ r. Next c r) last (t ∷ ts)
    by true b e f = rw e refl
    by false true e f = rw (e, f) refl
    by false false e f = rw (e, f) refl

next_may : (k : Section) (c d : Course) (s : Contents) → Same (Next (may k c d) s) (optional_section k s >>= λ o. cond o.0 (Next c o.1) (Next d o.1))
unfolding rest_at optional_section either
next_may k c d s last [] = refl
next_may k c d s last (t ∷ ts) = by (is_word_of_section k t) refl
  where
    by : (b : Bool) → is_word_of_section k t ≡ b → Next (may k c d) s last (t ∷ ts) ≡ (optional_section k s >>= λ o. cond o.0 (Next c o.1) (Next d o.1)) last (t ∷ ts)
    by true e = rw e (sym (regrouped (body k s) (λ r. pure (true, r)) (λ o. cond o.0 (Next c o.1) (Next d o.1)) last (t ∷ ts)))
    by false e = rw e refl

next_ends : (s : Contents) → Same (Next ends s) (pure s)
unfolding rest_at
next_ends s last ts = refl

-- ---- the forms

both : {A : Type 0} (p q r : Reader A) → Same p q → Same q r → Same p r
both p q r e f last ts = e last ts ∙ f last ts

-- nothing behind
alone : (p : Reader Contents) → Same (p >>= λ s. Next ends s) p
unfolding rest_at
alone p last ts = by (p last ts)
  where
    by : (x : Answer Contents) → answer_and_then x (λ s us. Next ends s last us) ≡ x
    by (Ok x) = refl
    by (Err x) = refl

either_same : (c : Course) (p : Contents → Reader Contents) → ((s : Contents) → Same (Next c s) (p s)) → (d : Course) (q : Contents → Reader Contents) → ((s : Contents) → Same (Next d s) (q s)) → (b : Bool) (s : Contents) → Same (cond b (Next c s) (Next d s)) (cond b (p s) (q s))
either_same c p e d q f true s = e s
either_same c p e d q f false s = f s

whichever : (b : Bool) (p : Reader Contents) → Same (cond b p p) p
whichever true p last ts = refl
whichever false p last ts = refl

-- a section that may come, and nothing behind
last_may : (k : Section) (s : Contents) → Same (Next (may k ends ends) s) (optional_section k s >>= left)
last_may k s = both _ _ _ (next_may k ends ends s) (same_then (optional_section k s) (λ o. cond o.0 (Next ends o.1) (Next ends o.1)) left (λ o. both _ _ _ (whichever o.0 (Next ends o.1)) (next_ends o.1)))

-- behind lists and perhaps a schedule
schedule_next : (c : Course) (s : Contents) → Same (Next (may_schedule c) s) ((optional_section Schedule s >>= left) >>= λ r. Next c r)
schedule_next c s last ts =
    next_may Schedule c c s last ts
    ∙ same_then (optional_section Schedule s) (λ o. cond o.0 (Next c o.1) (Next c o.1)) (λ o. left o >>= λ r. Next c r) (λ o. whichever o.0 (Next c o.1)) last ts
    ∙ sym (regrouped (optional_section Schedule s) left (λ r. Next c r) last ts)

callers_next : (c : Course) (s : Contents) → Same (Next (may_lists c) s) (callers s >>= λ r. Next c r)
unfolding callers
callers_next c s last ts =
    next_may Lists (may_schedule c) c s last ts
    ∙ same_then (optional_section Lists s) (λ o. cond o.0 (Next (may_schedule c) o.1) (Next c o.1)) (λ o. cond o.0 (optional_section Schedule o.1 >>= left) (left o) >>= λ r. Next c r) (λ o. by o.0 o.1) last ts
    ∙ sym (regrouped (optional_section Lists s) (λ o. cond o.0 (optional_section Schedule o.1 >>= left) (left o)) (λ r. Next c r) last ts)
  where
    by : (b : Bool) (r : Contents) → Same (cond b (Next (may_schedule c) r) (Next c r)) (cond b (optional_section Schedule r >>= left) (pure r) >>= λ q. Next c q)
    by true r = schedule_next c r
    by false r = λ last ts. refl

record_next : (s : Contents) → Same (Next behind_journal s) (record_behind s)
unfolding record_behind
record_next s = both _ _ _ (next_needs Final (may Turns ends ends) s) (same_then (needed_section Final s) (λ r. Next (may Turns ends ends) r) (λ r. optional_section Turns r >>= left) (λ r. last_may Turns r))

abbrev behind_by : Form → Course
behind_by Run = needs Shape (needs Lists (may_schedule ends))
behind_by Interleave = needs Shape (needs Lists (needs Schedule ends))
behind_by Check = may Shape (may_lists ends) ends
behind_by Replay = needs Shape (may_lists (needs Journal behind_journal))
behind_by Measure = needs Shape (may_lists (may Journal behind_journal ends))

program_behind : (f : Form) (s : Contents) → Same (Next (behind_by f) s) (behind_program f s)
unfolding behind_program
program_behind Run s = both _ _ _ (next_needs Shape _ s) (same_then (needed_section Shape s) _ _ (λ r. both _ _ _ (next_needs Lists _ r) (same_then (needed_section Lists r) _ _ (λ q. last_may Schedule q))))
program_behind Interleave s = both _ _ _ (next_needs Shape _ s) (same_then (needed_section Shape s) _ _ (λ r. both _ _ _ (next_needs Lists _ r) (same_then (needed_section Lists r) _ _ (λ q. both _ _ _ (next_needs Schedule ends q) (alone (needed_section Schedule q))))))
program_behind Check s = both _ _ _ (next_may Shape _ ends s) (same_then (optional_section Shape s) _ _ (λ o. either_same (may_lists ends) callers (λ r. both _ _ _ (callers_next ends r) (alone (callers r))) ends (λ r. pure r) next_ends o.0 o.1))
program_behind Replay s = both _ _ _ (next_needs Shape _ s) (same_then (needed_section Shape s) _ _ (λ r. both _ _ _ (callers_next _ r) (same_then (callers r) _ _ (λ q. both _ _ _ (next_needs Journal behind_journal q) (same_then (needed_section Journal q) _ _ record_next)))))
program_behind Measure s = both _ _ _ (next_needs Shape _ s) (same_then (needed_section Shape s) _ _ (λ r. both _ _ _ (callers_next _ r) (same_then (callers r) _ _ (λ q. both _ _ _ (next_may Journal behind_journal ends q) (same_then (optional_section Journal q) _ _ (λ o. either_same behind_journal record_behind record_next ends (λ p. pure p) next_ends o.0 o.1))))))

course_is : (f : Form) → course_of f ≡ needs Program (behind_by f)
course_is Run = refl
course_is Interleave = refl
course_is Check = refl
course_is Replay = refl
course_is Measure = refl

pub form_next : (f : Form) (s : Contents) → Same (Next (course_of f) s) (straight f s)
unfolding straight
form_next f s last ts =
    ap (λ (c : Course). Next c s last ts) (course_is f)
    ∙ next_needs Program (behind_by f) s last ts
    ∙ same_then (needed_section Program s) (λ r. Next (behind_by f) r) (λ r. behind_program f r) (λ r. program_behind f r) last ts
