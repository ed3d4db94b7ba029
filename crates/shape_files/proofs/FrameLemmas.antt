-- The frame of a document keeps the laws, whatever its sections are.
use Rattle.std.proofs.Common.{◌≡◌, ℕ, Bool, true, false, cond, List, [], ◌∷◌, ◌++◌, Option, Some, None, refl, sym, ap, subst, ◌∙◌}
use Rattle.std.specs.Prelude.{codes}
use Rattle.std.specs.Str.{bytes_eq}
use Rattle.std.proofs.lemmas.Slice.Eq.{bytes_eq-Decides}
use Rattle.std.proofs.lemmas.Bool.{and_parts}
use Rattle.std.proofs.lemmas.Option.{same_Some}
use Rattle.text_tokens.specs.declared.token.TokenKind.TheVariants.{Word}
use Rattle.text_tokens.specs.declared.refusal.RefusalKind.TheVariants.{Trailing, WrongSection}
use Rattle.text_tokens.specs.Text.{Lexeme}
use Rattle.text_tokens.specs.Cursor.{is_kind, is_spelled, same_kind}
use Rattle.text_tokens.specs.Reading.{Reader, first, ◌>>=◌, pure, refuse, stop, the_line, numeral, no_limit}
use Rattle.text_tokens.specs.Grammar.{Symbol, symbol, tokens, Lang, Then, then, IsThe, IsNumeral, IsNothing, is_nothing}
use Rattle.text_tokens.specs.Lawful.{SomeText, SomeFrom, Next, GoesOn, Lawful, LawfulAt, always, IsPart}
use Rattle.text_tokens.proofs.SequenceLemmas.{law_then}
use Rattle.text_tokens.proofs.StartsLemmas.{begins_tokens, front_token}
use Rattle.text_tokens.proofs.Parts.{nil_not, part_nothing, part_behind}
use Rattle.text_tokens.proofs.ChoiceLemmas.{law_choose, law_branch, law_refuse, law_stop}
use Rattle.text_tokens.proofs.LexemeLemmas.{passing, a_token, a_numeral}
use Rattle.text_tokens.proofs.CombinatorLemmas.{exact_law, input_law}
use Rattle.shape_text.specs.Parts.{outside}
use Rattle.shape_files.specs.declared.section_kind.Section.{Section}
use Rattle.shape_files.specs.declared.section_kind.Section.TheVariants.{Program, Shape, Lists, Schedule, Journal, Final, Turns}
use Rattle.shape_files.specs.Frame.{word_of_section, is_word_of_section, is_header_word, is_section_word, Course, ends, needs, may, NextSection, next_section, comes, may_end, IsRest, section, finished, wrong, greatest_version, IsHeaderFrom, IsInFrameFrom}
use Rattle.shape_files.specs.FrameReaders.{missing, rest_at, rest, header_from, in_frame_from}
use Rattle.shape_files.specs.FrameLaws.{AreSections, Framed}

-- ---- words

-- tokens that are one word are the same for every section
same_word : (k j : Section) (t u : Lexeme) → is_word_of_section k t ≡ true → is_word_of_section k u ≡ true → is_word_of_section j t ≡ is_word_of_section j u
same_word k j t u e f =
    let a = and_parts (is_kind Word t) (is_spelled (word_of_section k) t) e in
    let b = and_parts (is_kind Word u) (is_spelled (word_of_section k) u) f in
    let v : t.text ≡ word_of_section k = (bytes_eq-Decides t.text (word_of_section k)).0 a.1 in
    let w : u.text ≡ word_of_section k = (bytes_eq-Decides u.text (word_of_section k)).0 b.1 in
    rw (a.0, b.0) (ap (λ (text : List ℕ). bytes_eq text (word_of_section j)) (v ∙ sym w))

same_way : (c : Course) (k : Section) (t u : Lexeme) → is_word_of_section k t ≡ true → is_word_of_section k u ≡ true → comes c t ≡ comes c u
same_way ends k t u e f = refl
same_way (needs j c) k t u e f = ap (λ (b : Bool). cond b (Some (next_section j c)) None) (same_word k j t u e f)
same_way (may j c d) k t u e f =
    ap (λ (b : Bool). cond b (Some (next_section j c)) (comes d t)) (same_word k j t u e f)
    ∙ ap (λ (o : Option NextSection). cond (is_word_of_section j u) (Some (next_section j c)) o) (same_way d k t u e f)

-- a section word that comes nowhere
abbrev head : Lexeme
head = passing Word (codes "amoebot")

head_is : is_section_word head ≡ true
unfolding same_kind
head_is = refl

no_word : (k : Section) → is_word_of_section k head ≡ false
unfolding same_kind
no_word Program = refl
no_word Shape = refl
no_word Lists = refl
no_word Schedule = refl
no_word Journal = refl
no_word Final = refl
no_word Turns = refl

never_comes : (c : Course) → comes c head ≡ None
never_comes ends = refl
never_comes (needs k c) = rw (no_word k) refl
never_comes (may k c d) = rw (no_word k) (never_comes d)

-- ---- the header

pub part_header : (least : ℕ) → IsPart (IsHeaderFrom least) (header_from least) always
unfolding header_from
part_header least = part_behind (IsThe is_header_word) (the_line is_header_word) (λ line. IsNumeral (outside least greatest_version)) (λ line. numeral (outside least greatest_version)) always (a_token Word (codes "amoebot") refl) (λ line. a_numeral (outside least greatest_version))

module _ {S : Type 0} (Body : Section → S → Lang S) (body : Section → S → Reader S) (are : AreSections Body body) where
  -- ---- texts

  pub some_rest : (c : Course) (s : S) → SomeText (IsRest Body c s)
  some_rest c s = by (may_end c) refl
    where
      by : (b : Bool) → may_end c ≡ b → SomeText (IsRest Body c s)
      by true e = record { text = []; whole = s; is = finished e }
      by false e = record { text = symbol head (Some WrongSection) ∷ []; whole = s; is = wrong head (never_comes c) e head_is }

  -- a section and what is behind it begin with the section's word
  record Opened (k : Section) (xs ys : List Symbol) : Type 0 where
    pub t : Lexeme
    pub more : List Symbol
    pub parts : xs ++ ys ≡ symbol t None ∷ more
    pub word : is_word_of_section k t ≡ true
    pub first_of : first (tokens xs) ≡ Some t

  opened : (k : Section) (s r : S) (xs ys : List Symbol) → Body k s xs r → Opened k xs ys
  opened k s r xs ys p =
      let b = (are.start k s).begins xs r p in
      record { t = b.t; more = b.more ++ ys; parts = ap (λ (zs : List Symbol). zs ++ ys) b.parts; word = b.passes; first_of = ap first (begins_tokens (is_word_of_section k) no_limit xs b) }

  -- a text begins with a token, or there is none
  front_by : (c : Course) (s b : S) (zs : List Symbol) (text : List Symbol) (x : Symbol) (more : List Symbol) → IsRest Body c s zs b → zs ≡ text ++ x ∷ more → tokens text ≡ [] → x.token ≡ None → ⊥
  front_by c s b zs text x more (section {k = k} {r = r} {xs = xs} {ys = ys} t g e p q) f h n =
      let o = opened k s r xs ys p in
      let m : Some o.t ≡ None = sym (front_token text x more (symbol o.t None) o.more o.t (sym o.parts ∙ f) refl h) ∙ n in absurd cc
  front_by c s b zs text x more (finished e) f h n = nil_not text x more f
  front_by c s b zs text x more (wrong t e m i) f h n = let k : Some t ≡ None = sym (front_token text x more (symbol t (Some WrongSection)) [] t f refl h) ∙ n in absurd cc

  front : (c : Course) (s : S) (x : Symbol) → Next (IsRest Body c s) [] x → x.token ≡ None → ⊥
  front c s x n e = front_by c s n.whole (n.text ++ x ∷ n.more) n.text x n.more n.is refl n.parts e

  empty_end : (c : Course) (s b : S) (xs : List Symbol) → IsRest Body c s xs b → tokens xs ≡ [] → (may_end c ≡ true) × IsNothing s xs b
  empty_end c s b zs (section {k = k} {r = r} {xs = xs} {ys = ys} t g e p q) f =
      let o = opened k s r xs ys p in
      let m : o.t ∷ tokens o.more ≡ [] = sym (ap tokens o.parts) ∙ f in absurd cc
  empty_end c s b xs (finished e) f = (e, is_nothing)
  empty_end c s b xs (wrong t e m i) f = absurd cc

  -- ---- a section that comes

  abbrev Taken : Section → Course → S → Lang S
  Taken k d s = Then (Body k s) (λ r. IsRest Body d r)

  module _ (c d : Course) (k : Section) (t : Lexeme) (is : is_word_of_section k t ≡ true) (comes_so : comes c t ≡ Some (next_section k d)) (law : (s : S) → Lawful (IsRest Body d s) (rest body d s)) (s : S) where
    law_taken : Lawful (Taken k d s) (body k s >>= λ r. rest body d r)
    law_taken = law_then (Body k s) (λ r. IsRest Body d r) (λ xs r p. some_rest d r) (body k s) (λ r. rest body d r) (are.part k s).law (λ xs r p fine. law r) (λ xs ys r b u p q e g. (are.part k s).halts xs r u p refl g)

    into_taken : (xs : List Symbol) (b : S) → Taken k d s xs b → IsRest Body c s xs b
    into_taken zs b (then {xs = xs} {ys = ys} r p q) =
        let o = opened k s r xs ys p in
        section o.t o.first_of (same_way c k o.t t o.word is ∙ comes_so) p q

    back_taken : (xs : List Symbol) (b : S) → IsRest Body c s xs b → first (tokens xs) ≡ Some t → Taken k d s xs b
    back_taken zs b (section {d = e} {k = j} {r = r} {xs = xs} {ys = ys} u g f p q) h =
        let o = opened j s r xs ys p in
        let same : u ≡ t = same_Some _ _ (sym g ∙ o.first_of) ∙ same_Some _ _ (sym (ap first (ap tokens o.parts)) ∙ h) in
        let w : next_section k d ≡ next_section j e = same_Some _ _ (sym (ap (comes c) same ∙ comes_so) ∙ f) in
        let sections : j ≡ k = ap (λ (w : NextSection). w.section) (sym w) in
        let behinds : e ≡ d = ap (λ (w : NextSection). w.behind) (sym w) in
        then r (subst (λ (j : Section). Body j s xs r) sections p) (subst (λ (e : Course). IsRest Body e r ys b) behinds q)
    back_taken zs b (finished e) h = absurd cc
    back_taken zs b (wrong u e m i) h = let same : u ≡ t = same_Some _ _ h in let f : ◌≡◌ {A = Option NextSection} (Some (next_section k d)) None = sym (ap (comes c) same ∙ comes_so) ∙ e in absurd cc

    taken_on : GoesOn (IsRest Body c s) [] t
    taken_on =
        let x : SomeFrom (Body k s) (symbol t None) = (are.start k s).each t is in
        let i = some_rest d x.whole in
        record { at = symbol t None; next = record { text = []; more = x.more ++ i.text; whole = i.whole; is = into_taken (symbol t None ∷ (x.more ++ i.text)) i.whole (then x.whole x.is i.is); parts = refl; fine = refl }; token = refl }

    law_way : LawfulAt (IsRest Body c s) (Some t) (body k s >>= λ r. rest body d r)
    law_way = law_branch (Some t) (Taken k d s) (IsRest Body c s)
        (record { into = into_taken; back = λ xs b u p e same. back_taken xs b p (e ∙ sym same); empty = λ none xs b p e. absurd (none t refl taken_on); front = λ none x r n e f. absurd (none t refl taken_on) })
        (body k s >>= λ r. rest body d r) law_taken

  -- ---- a token with which none comes

  -- where none is needed
  module _ (c : Course) (s : S) (m : may_end c ≡ true) where
    from_nothing : (xs : List Symbol) (b : S) → IsNothing s xs b → IsRest Body c s xs b
    from_nothing xs b is_nothing = finished m

    law_end : (next : Option Lexeme) → ((t : Lexeme) → next ≡ Some t → comes c t ≡ None) → LawfulAt (IsRest Body c s) next (pure s)
    law_end next none = law_branch next (IsNothing s) (IsRest Body c s)
        (record { into = from_nothing; back = λ xs b t p e same. absurd (no_token xs b t p e same); empty = λ n xs b p e. (empty_end c s b xs p e).1; front = λ n x r g e f. absurd (front c s x g e) })
        (pure s) (part_nothing s).law
      where
        no_token : (xs : List Symbol) (b : S) (t : Lexeme) → IsRest Body c s xs b → first (tokens xs) ≡ Some t → next ≡ Some t → ⊥
        no_token zs b t (section {k = k} {r = r} {xs = xs} {ys = ys} u g f p q) e same =
            let o = opened k s r xs ys p in
            let is : u ≡ t = same_Some _ _ (sym g ∙ o.first_of) ∙ same_Some _ _ (sym (ap first (ap tokens o.parts)) ∙ e) in
            let n : ◌≡◌ {A = Option NextSection} None (Some _) = sym (ap (comes c) is ∙ none t same) ∙ f in absurd cc
        no_token xs b t (finished f) e same = absurd cc
        no_token xs b t (wrong u f n i) e same = let g : true ≡ false = sym m ∙ n in absurd cc

  -- where one is needed
  module _ (c : Course) (s : S) (m : may_end c ≡ false) where
    -- a text that begins with a token with which none comes
    only_wrong : (t : Lexeme) → comes c t ≡ None → (xs : List Symbol) (b : S) → IsRest Body c s xs b → first (tokens xs) ≡ Some t → (is_section_word t ≡ true) × (xs ≡ symbol t (Some WrongSection) ∷ [])
    only_wrong t none zs b (section {k = k} {r = r} {xs = xs} {ys = ys} u g f p q) e =
        let o = opened k s r xs ys p in
        let is : u ≡ t = same_Some _ _ (sym g ∙ o.first_of) ∙ same_Some _ _ (sym (ap first (ap tokens o.parts)) ∙ e) in
        let n : ◌≡◌ {A = Option NextSection} None (Some _) = sym (ap (comes c) is ∙ none) ∙ f in absurd cc
    only_wrong t none xs b (finished f) e = absurd cc
    only_wrong t none xs b (wrong u f n i) e = let is : u ≡ t = same_Some _ _ e in (ap is_section_word (sym is) ∙ i, ap (λ (v : Lexeme). symbol v (Some WrongSection) ∷ []) is)

    never_empty : (xs : List Symbol) (b : S) → IsRest Body c s xs b → tokens xs ≡ [] → ⊥
    never_empty xs b p e = let g : true ≡ false = sym (empty_end c s b xs p e).0 ∙ m in absurd cc

    law_wrong : (t : Lexeme) → comes c t ≡ None → is_section_word t ≡ true → LawfulAt (IsRest Body c s) (Some t) (stop WrongSection)
    law_wrong t none i = law_stop t WrongSection (IsRest Body c s) (record {
      some = record { more = []; whole = s; is = wrong t none m i };
      only = λ xs b p e. ([], (only_wrong t none xs b p e).1);
    })

    law_missing : (next : Option Lexeme) → ((t : Lexeme) → next ≡ Some t → (comes c t ≡ None) × (is_section_word t ≡ false)) → LawfulAt (IsRest Body c s) next refuse
    law_missing next none = law_refuse next (IsRest Body c s) (some_rest c s) (record {
      none = λ xs b t p e same. (let f : true ≡ false = sym (only_wrong t (none t same).0 xs b p e).0 ∙ (none t same).1 in absurd cc);
      never = never_empty;
      front = λ x n e. absurd (front c s x n e);
    })

    law_none : (next : Option Lexeme) → ((t : Lexeme) → next ≡ Some t → comes c t ≡ None) → LawfulAt (IsRest Body c s) next (missing next)
    law_none None none = law_missing None (λ t e. absurd cc)
    law_none (Some t) none = by (is_section_word t) refl
      where
        by : (i : Bool) → is_section_word t ≡ i → LawfulAt (IsRest Body c s) (Some t) (cond i (stop WrongSection) refuse)
        by true i = law_wrong t (none t refl) i
        by false i = law_missing (Some t) (λ u e. (none u e, ap is_section_word (sym (same_Some _ _ e)) ∙ i))

  -- ---- a place

  -- what the reader does where no section comes
  abbrev without : Course → S → Option Lexeme → Reader S
  without c s next = cond (may_end c) (pure s) (missing next)

  data Found (c : Course) (next : Option Lexeme) : Type 0 where
    none_comes : ((t : Lexeme) → next ≡ Some t → comes c t ≡ None) → ((s : S) → rest_at body c s next ≡ without c s next) → Found c next
    one_comes : (t : Lexeme) (k : Section) (d : Course) → next ≡ Some t → is_word_of_section k t ≡ true → comes c t ≡ Some (next_section k d) → ((s : S) → rest_at body c s next ≡ (body k s >>= λ r. rest body d r)) → ((s : S) → Lawful (IsRest Body d s) (rest body d s)) → Found c next

  law_found : (c : Course) (s : S) (next : Option Lexeme) → Found c next → LawfulAt (IsRest Body c s) next (rest_at body c s next)
  law_found c s next (none_comes none reads) = rw (reads s) (by (may_end c) refl)
    where
      by : (m : Bool) → may_end c ≡ m → LawfulAt (IsRest Body c s) next (cond m (pure s) (missing next))
      by true m = law_end c s m next none
      by false m = law_none c s m next none
  law_found c s next (one_comes t k d same is comes_so reads law) = rw (reads s) (subst (λ (o : Option Lexeme). LawfulAt (IsRest Body c s) o (body k s >>= λ r. rest body d r)) (sym same) (law_way c d k t is comes_so law s))

  law_place : (c : Course) → ((next : Option Lexeme) → Found c next) → (s : S) → Lawful (IsRest Body c s) (rest body c s)
  law_place c found s = law_choose (IsRest Body c s) (λ next. rest_at body c s next) (λ next. law_found c s next (found next))

  found : (c : Course) (next : Option Lexeme) → Found c next
  unfolding rest_at
  found ends next = none_comes (λ t e. refl) (λ s. refl)
  found (needs k c) None = none_comes (λ t e. absurd cc) (λ s. refl)
  found (needs k c) (Some t) = by (is_word_of_section k t) refl (λ u. found c u)
    where
      by : (b : Bool) → is_word_of_section k t ≡ b → ((u : Option Lexeme) → Found c u) → Found (needs k c) (Some t)
      by true e rec = one_comes t k c refl e (rw e refl) (λ s. rw e refl) (law_place c rec)
      by false e rec = none_comes (λ u f. ap (comes (needs k c)) (sym (same_Some _ _ f)) ∙ rw e refl) (λ s. rw e refl)
  found (may k c d) None = by (found d None)
    where
      by : Found d None → Found (may k c d) None
      by (none_comes none reads) = none_comes (λ t e. absurd cc) reads
      by (one_comes t j h same is comes_so reads law) = absurd cc
  found (may k c d) (Some t) = by (is_word_of_section k t) refl (found d (Some t)) (λ u. found c u)
    where
      by : (b : Bool) → is_word_of_section k t ≡ b → Found d (Some t) → ((u : Option Lexeme) → Found c u) → Found (may k c d) (Some t)
      by true e f rec = one_comes t k c refl e (rw e refl) (λ s. rw e refl) (law_place c rec)
      by false e (none_comes none reads) rec = none_comes (λ u f. ap (comes (may k c d)) (sym (same_Some _ _ f)) ∙ rw e (none t refl)) (λ s. rw e (reads s))
      by false e (one_comes u j h same is comes_so reads law) rec = let v : t ≡ u = same_Some _ _ same in one_comes u j h same is (ap (comes (may k c d)) (sym v) ∙ rw e (ap (comes d) v ∙ comes_so)) (λ s. rw e (reads s)) law

  pub law_rest : (c : Course) (s : S) → Lawful (IsRest Body c s) (rest body c s)
  law_rest c s = law_place c (λ next. found c next) s

  -- ---- the document

  pub law_frame : (least : ℕ) (c : Course) (start : ℕ → S) → Lawful (IsInFrameFrom least Body c start) (in_frame_from least body c start)
  unfolding in_frame_from
  law_frame least c start = law_then (IsHeaderFrom least) (λ version. IsRest Body c (start version)) (λ xs v is. some_rest c (start v)) (header_from least) (λ version. rest body c (start version)) (part_header least).law (λ xs v is fine. law_rest c (start v)) (λ xs ys v b t p q e g. (part_header least).halts xs v t p refl g)

  pub framed : (least : ℕ) (c : Course) (start : ℕ → S) → Framed (IsInFrameFrom least Body c start) (in_frame_from least body c start)
  framed least c start =
      let law = law_frame least c start in
      let e = exact_law (IsInFrameFrom least Body c start) (in_frame_from least body c start) law in
      let i = input_law (IsInFrameFrom least Body c start) (in_frame_from least body c start) Trailing law in
      record { exact = e.0; decided = e.1; exact_input = i.0; decided_input = i.1 }
