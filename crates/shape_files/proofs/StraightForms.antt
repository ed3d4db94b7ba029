-- The frame's texts without a refusal are those of the forms as they are written down.
use Rattle.std.proofs.Common.{◌≡◌, Bool, true, false, cond, List, [], ◌++◌, Option, Some, None, refl, sym, ap, subst, ◌∙◌}
use Rattle.std.proofs.lemmas.Option.{same_Some}
use Rattle.std.specs.Prelude.{codes}
use Rattle.text_tokens.specs.declared.token.TokenKind.TheVariants.{Word}
use Rattle.text_tokens.specs.Text.{Lexeme}
use Rattle.text_tokens.specs.Reading.{first, no_limit}
use Rattle.text_tokens.specs.Grammar.{Symbol, first_fault, Lang, Then, then, IsNothing, is_nothing, Either, of_first, of_second}
use Rattle.text_tokens.proofs.ListSplits.{fine-parts}
use Rattle.text_tokens.proofs.StartsLemmas.{begins_tokens}
use Rattle.text_tokens.proofs.LexemeLemmas.{other_text}
use Rattle.shape_files.specs.declared.section_kind.Section.{Section}
use Rattle.shape_files.specs.declared.section_kind.Section.TheVariants.{Lists, Schedule, Journal}
use Rattle.shape_files.specs.declared.section_kind.Form.TheVariants.{Run, Interleave, Replay, Check, Measure}
use Rattle.shape_files.specs.Frame.{Course, ends, needs, may, behind_journal, NextSection, next_section, is_word_of_section, comes, may_end, IsRest, section, finished, wrong}
use Rattle.shape_files.specs.FrameLaws.{IsStraight, SameTexts, Distinct, BeginWithTheirWords, FormsAreDistinct}

module _ {S : Type 0} (Body : Section → S → Lang S) (words : BeginWithTheirWords Body) where
  abbrev WithRest : Section → Course → S → Lang S
  WithRest k c s = Then (Body k s) (λ r. IsStraight Body c r)

  -- ---- to what is written down

  -- the section that comes is among those that are written down there
  via : (c d : Course) (k : Section) (t : Lexeme) (s b : S) (zs : List Symbol) → comes c t ≡ Some (next_section k d) → WithRest k d s zs b → IsStraight Body c s zs b
  via ends d k t s b zs e w = absurd cc
  via (needs j c) d k t s b zs e w = by (is_word_of_section j t) e
    where
      by : (o : Bool) → cond {A = Option NextSection} o (Some (next_section j c)) None ≡ Some (next_section k d) → WithRest j c s zs b
      by true g =
          let h : next_section k d ≡ next_section j c = sym (same_Some _ _ g) in
          subst (λ (w : NextSection). WithRest w.section w.behind s zs b) h w
      by false g = absurd cc
  via (may j c m) d k t s b zs e w = by (is_word_of_section j t) e (λ g. via m d k t s b zs g w)
    where
      by : (o : Bool) → cond {A = Option NextSection} o (Some (next_section j c)) (comes m t) ≡ Some (next_section k d) → (comes m t ≡ Some (next_section k d) → IsStraight Body m s zs b) → Either (WithRest j c s) (IsStraight Body m s) zs b
      by true g rec =
          let h : next_section k d ≡ next_section j c = sym (same_Some _ _ g) in
          of_first (subst (λ (w : NextSection). WithRest w.section w.behind s zs b) h w)
      by false g rec = of_second (rec g)

  ends_plain : (c : Course) (s : S) → may_end c ≡ true → IsStraight Body c s [] s
  ends_plain ends s e = is_nothing
  ends_plain (needs k c) s e = absurd cc
  ends_plain (may k c d) s e = of_second (ends_plain d s e)

  to_plain : (c : Course) (s b : S) (zs : List Symbol) → IsRest Body c s zs b → first_fault zs ≡ None → IsStraight Body c s zs b
  to_plain c s b zs (section {d = d} {k = k} {r = r} {xs = xs} {ys = ys} t g e p q) fine = via c d k t s b (xs ++ ys) e (then r p (to_plain d r b ys q (fine-parts xs ys fine).1))
  to_plain c s b zs (finished e) fine = ends_plain c s e
  to_plain c s b zs (wrong t e m i) fine = absurd cc

  -- ---- and back

  -- a section with its word, where it comes
  in_place : (c d : Course) (k : Section) (s r b : S) (xs ys : List Symbol) → ((t : Lexeme) → is_word_of_section k t ≡ true → comes c t ≡ Some (next_section k d)) → Body k s xs r → IsRest Body d r ys b → IsRest Body c s (xs ++ ys) b
  in_place c d k s r b xs ys here p q =
      let o = (words k s).begins xs r p in
      section o.t (ap first (begins_tokens (is_word_of_section k) no_limit xs o)) (here o.t o.passes) p q

  -- what comes in place of a section
  beside : (k : Section) (c d : Course) → ((t : Lexeme) → is_word_of_section k t ≡ true → comes d t ≡ None) → (s b : S) (zs : List Symbol) → IsRest Body d s zs b → first_fault zs ≡ None → IsRest Body (may k c d) s zs b
  beside k c d differ s b zs (section {d = e} {k = j} {xs = xs} {ys = ys} t g here p q) fine = by (is_word_of_section k t) refl
    where
      by : (o : Bool) → is_word_of_section k t ≡ o → IsRest Body (may k c d) s (xs ++ ys) b
      by true f = let h : ◌≡◌ {A = Option NextSection} None (Some (next_section j e)) = sym (differ t f) ∙ here in absurd cc
      by false f = section t g (rw f here) p q
  beside k c d differ s b zs (finished e) fine = finished e
  beside k c d differ s b zs (wrong t e m i) fine = absurd cc

  from_with : (k : Section) (c d : Course) → ((t : Lexeme) → is_word_of_section k t ≡ true → comes d t ≡ Some (next_section k c)) → ((s b : S) (zs : List Symbol) → IsStraight Body c s zs b → first_fault zs ≡ None → IsRest Body c s zs b) → (s b : S) (zs : List Symbol) → WithRest k c s zs b → first_fault zs ≡ None → IsRest Body d s zs b
  from_with k c d here rec s b zs (then {xs = xs} {ys = ys} r p q) fine = in_place d c k s r b xs ys here p (rec r b ys q (fine-parts xs ys fine).1)

  from_nothing : (s b : S) (zs : List Symbol) → IsNothing s zs b → IsRest Body ends s zs b
  from_nothing s b zs is_nothing = finished refl

  from_plain : (c : Course) → Distinct c → (s b : S) (zs : List Symbol) → IsStraight Body c s zs b → first_fault zs ≡ None → IsRest Body c s zs b
  from_plain ends distinct s b zs is fine = from_nothing s b zs is
  from_plain (needs k c) distinct s b zs is fine = from_with k c (needs k c) (λ t e. rw e refl) (λ r b ys q f. from_plain c distinct r b ys q f) s b zs is fine
  from_plain (may k c d) distinct s b zs (of_first is) fine = from_with k c (may k c d) (λ t e. rw e refl) (λ r b ys q f. from_plain c distinct.1 r b ys q f) s b zs is fine
  from_plain (may k c d) distinct s b zs (of_second is) fine = beside k c d distinct.0 s b zs (from_plain d distinct.2 s b zs is fine) fine

  pub straight_texts : (c : Course) → Distinct c → (s : S) → SameTexts Body c s
  straight_texts c distinct s = record {
    into = λ us a w. record { text = w.text; is = to_plain c s a w.text w.is w.fine; parts = w.parts; fine = w.fine };
    back = λ us a w. record { text = w.text; is = from_plain c distinct s a w.text w.is w.fine; parts = w.parts; fine = w.fine };
  }

-- ---- the five forms

lists_no_journal : (c : Course) (t : Lexeme) → is_word_of_section Lists t ≡ true → comes (needs Journal c) t ≡ None
lists_no_journal c t e = rw (other_text Word (codes "lists") (codes "journal") t refl e) refl

schedule_no_journal : (c : Course) (t : Lexeme) → is_word_of_section Schedule t ≡ true → comes (needs Journal c) t ≡ None
schedule_no_journal c t e = rw (other_text Word (codes "schedule") (codes "journal") t refl e) refl

turns_last : Distinct behind_journal
turns_last = (λ t e. refl, tt, tt)

pub forms_are_distinct : FormsAreDistinct
forms_are_distinct Run = (λ t e. refl, tt, tt)
forms_are_distinct Interleave = tt
forms_are_distinct Check = (λ t e. refl, (no_lists, (λ t e. refl, tt, tt), tt), tt)
  where
    no_lists : (t : Lexeme) → is_word_of_section Lists t ≡ true → comes ends t ≡ None
    no_lists t e = refl
forms_are_distinct Replay = (λ t e. lists_no_journal behind_journal t e, (λ t e. schedule_no_journal behind_journal t e, turns_last, turns_last), turns_last)
forms_are_distinct Measure = (λ t e. lists_no_journal behind_journal t e, (λ t e. schedule_no_journal behind_journal t e, (λ t e. refl, turns_last, tt), (λ t e. refl, turns_last, tt)), (λ t e. refl, turns_last, tt))
