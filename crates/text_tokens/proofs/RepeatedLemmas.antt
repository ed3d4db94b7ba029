-- Any number of elements. On so many tokens the grammar and its reader agree with those of so many elements at most.
use Rattle.std.proofs.Common.{◌≡◌, ◌<◌, ℕ, zero, suc, ◌+◌, Bool, true, false, cond, List, [], ◌∷◌, ◌++◌, length, Option, Some, Ok, Err, refl, sym, ap, subst, ◌∙◌, append_assoc, arith, lt-suc_self}
use Rattle.std.proofs.lemmas.List.{append-nil, length-append}
use Rattle.text_tokens.specs.declared.refusal.Refusal.{Refusal}
use Rattle.text_tokens.specs.declared.refusal.RefusalKind.{RefusalKind}
use Rattle.text_tokens.specs.Text.{Lexeme}
use Rattle.text_tokens.specs.Reading.{Answer, Reader, first, answer_and_then, ◌>>=◌, pure, one, no_limit, starts_at, either, times, elements, repeated, behind_sign, chained, limited}
use Rattle.text_tokens.specs.Grammar.{Symbol, tokens, Lang, IsOne, Then, then, Made, made, IsNothing, is_nothing, Either, of_first, of_second, Times, Limited, Repeated, no_more, one_more, BehindSign, Chained}
use Rattle.text_tokens.specs.Lawful.{Next, IsText, Tells, LawfulOn, Lawful, Halts, always, IsPart, Starts, StartsIn, AreElements, AreChained, limit_at}
use Rattle.text_tokens.proofs.Symbols.{tokens-append}
use Rattle.text_tokens.proofs.ListSplits.{Lies, in_first, in_second, lies}
use Rattle.text_tokens.proofs.Exactness.{exact}
use Rattle.text_tokens.proofs.CarriedTexts.{law_carried, law_of_some, unmapped, next_as, whole_as, part_made}
use Rattle.text_tokens.proofs.Parts.{nil_not, some_text, part_less, part_nothing, part_one, part_before, part_behind}
use Rattle.text_tokens.proofs.StartsLemmas.{begins_tokens, starts_in, starts_one, starts_then, starts_limited, starts_in_made, starts_in_nothing, starts_in_either, starts_in_repeated}
use Rattle.text_tokens.proofs.ChoiceLemmas.{part_either, part_limited}

-- ---- a part so many times

pub part_times : {A : Type 0} (P : Lang A) (p : Reader A) → IsPart P p always → (n : ℕ) → IsPart (Times P n) (times p n) always
unfolding times
part_times P p part zero = part_nothing []
part_times P p part (suc n) = part_behind P p (λ a. Made (Times P n) (λ rest. a ∷ rest)) (λ a. times p n >>= λ rest. pure (a ∷ rest)) always part (λ a. part_made (Times P n) (λ rest. a ∷ rest) (times p n) always (part_times P p part n))

-- ---- elements

shorter_part : (us rest : List Lexeme) (n : ℕ) → length (us ++ rest) < n → length us < n
shorter_part us rest n l = let e : length (us ++ rest) ≡ length us + length rest = length-append us rest in omega arith

-- an element, and then the others
pub one_more_of : {A S : Type 0} (E : S → Lang A) (step : S → A → S) (s : S) (a : A) (xs ys : List Symbol) (many : List A) → E s xs a → Made (Repeated E step (step s a)) (λ rest. a ∷ rest) ys many → Repeated E step s (xs ++ ys) many
one_more_of E step s a xs ys many is (made rest m) = one_more a is m

module _ {A S : Type 0} (E : S → Lang A) (element : S → Reader A) (step : S → A → S) (starts between stop : Lexeme → Bool) (e : AreElements E element starts between stop) where
  -- so many at most
  abbrev Upto : ℕ → S → Lang (List A)
  Upto zero s = IsNothing []
  Upto (suc n) s = Either (Then (E s) (λ a. Made (Upto n (step s a)) (λ rest. a ∷ rest))) (IsNothing [])

  nothing_upto : (n : ℕ) (s : S) → Upto n s [] []
  nothing_upto zero s = is_nothing
  nothing_upto (suc n) s = of_second is_nothing

  starts_one_more : (n : ℕ) (s : S) → Starts (Then (E s) (λ a. Made (Upto n (step s a)) (λ rest. a ∷ rest))) starts (e.over s)
  starts_one_more n s = starts_then (E s) (λ a. Made (Upto n (step s a)) (λ rest. a ∷ rest)) starts (e.over s) (e.start s) (λ a. record { text = []; whole = a ∷ []; is = made [] (nothing_upto n (step s a)) })

  upto_starts : (n : ℕ) (s : S) → StartsIn (Upto n s) starts
  upto_starts zero s xs many t is f = starts_in_nothing [] starts xs many t is f
  upto_starts (suc n) s xs many t is f = starts_in_either (Then (E s) (λ a. Made (Upto n (step s a)) (λ rest. a ∷ rest))) (IsNothing []) starts
      (starts_in (Then (E s) (λ a. Made (Upto n (step s a)) (λ rest. a ∷ rest))) starts (e.over s) (starts_one_more n s)) (starts_in_nothing [] starts) xs many t is f

  part_none : IsPart {A = List A} (IsNothing []) (pure []) stop
  part_none = part_less (IsNothing []) (pure []) always stop (λ t f. refl) (part_nothing [])

  nothing_starts : (xs : List Symbol) (many : List A) (t : Lexeme) → IsNothing [] xs many → first (tokens xs) ≡ Some t → starts t ≡ false
  nothing_starts xs many t is f = let g : true ≡ false = sym (starts_in_nothing [] (λ u. false) xs many t is f) in absurd cc

  part_upto : (n : ℕ) (s : S) → IsPart (Upto n s) (elements starts element step n s) stop
  unfolding elements
  part_upto zero s = part_none
  part_upto (suc n) s = part_either (Then (E s) (λ a. Made (Upto n (step s a)) (λ rest. a ∷ rest))) (IsNothing []) (element s >>= λ a. elements starts element step n (step s a) >>= λ rest. pure (a ∷ rest)) (pure []) starts (e.over s) stop (record {
    one = part_before (E s) (element s) (λ a. Made (Upto n (step s a)) (λ rest. a ∷ rest)) (λ a. elements starts element step n (step s a) >>= λ rest. pure (a ∷ rest)) between stop (e.part s)
        (λ a. part_made (Upto n (step s a)) (λ rest. a ∷ rest) (elements starts element step n (step s a)) stop (part_upto n (step s a)))
        (λ a. record { begins = λ ys many t m f. e.again t (starts_in_made (Upto n (step s a)) (λ rest. a ∷ rest) starts (upto_starts n (step s a)) ys many t m f); empty = λ ys many t m f g. e.ends t g });
    other = part_none;
    start = starts_one_more n s;
    differ = nothing_starts;
    ends = λ xs many t is f g. e.differ t g;
  })

  no_more_of : (s : S) (xs : List Symbol) (many : List A) → IsNothing [] xs many → Repeated E step s xs many
  no_more_of s xs many is_nothing = no_more

  module _ (n : ℕ) (s : S) (rec : (s : S) (xs : List Symbol) (many : List A) → Upto n s xs many → Repeated E step s xs many) where
    made_of : (a : A) (ys : List Symbol) (many : List A) → Made (Upto n (step s a)) (λ rest. a ∷ rest) ys many → Made (Repeated E step (step s a)) (λ rest. a ∷ rest) ys many
    made_of a ys many (made rest m) = made rest (rec (step s a) ys rest m)

    then_of : (zs : List Symbol) (many : List A) → Then (E s) (λ a. Made (Upto n (step s a)) (λ rest. a ∷ rest)) zs many → Repeated E step s zs many
    then_of zs many (then {xs = xs} {ys = ys} a is m) = one_more_of E step s a xs ys many is (made_of a ys many m)

    either_of : (xs : List Symbol) (many : List A) → Upto (suc n) s xs many → Repeated E step s xs many
    either_of xs many (of_first is) = then_of xs many is
    either_of xs many (of_second is) = no_more_of s xs many is

  upto_is : (n : ℕ) (s : S) (xs : List Symbol) (many : List A) → Upto n s xs many → Repeated E step s xs many
  upto_is zero s xs many is = no_more_of s xs many is
  upto_is (suc n) s xs many is = either_of n s (λ s. upto_is n s) xs many is

  -- an element has a token
  fewer_behind : (s : S) (xs ys : List Symbol) (a : A) (n : ℕ) → E s xs a → length (tokens (xs ++ ys)) < suc n → length (tokens ys) < n
  fewer_behind s xs ys a n is l =
      let b = (e.start s).begins xs a is in
      let f : length (tokens (xs ++ ys)) ≡ length (tokens xs) + length (tokens ys) = ap length (tokens-append xs ys) ∙ length-append (tokens xs) (tokens ys) in
      let g : length (tokens xs) ≡ suc (length (tokens b.more)) = ap length (begins_tokens starts (e.over s) xs b) in
      omega arith

  text_upto : (n : ℕ) (s : S) (zs : List Symbol) (many : List A) → length (tokens zs) < n → Repeated E step s zs many → Upto n s zs many
  text_upto zero s zs many l is = absurd (omega arith)
  text_upto (suc n) s zs many l no_more = of_second is_nothing
  text_upto (suc n) s zs many l (one_more {xs = xs} {ys = ys} {rest = others} a is more) = of_first (then a is (made others (text_upto n (step s a) ys others (fewer_behind s xs ys a n is l) more)))

  -- a text up to a symbol
  record UptoSymbol (n : ℕ) (s : S) (text : List Symbol) (x : Symbol) : Type 0 where
    pub more : List Symbol
    pub whole : List A
    pub is : Upto n s (text ++ x ∷ more) whole

  symbol_upto : (n : ℕ) (s : S) (zs : List Symbol) (many : List A) (text : List Symbol) (x : Symbol) (more : List Symbol) → length (tokens text) < n → Repeated E step s zs many → zs ≡ text ++ x ∷ more → UptoSymbol n s text x
  symbol_upto zero s zs many text x more l is f = absurd (omega arith)
  symbol_upto (suc n) s zs many text x more l no_more f = absurd (nil_not text x more f)
  symbol_upto (suc n) s zs many text x more l (one_more {xs = xs} {ys = ys} {rest = others} a is rest) f =
      by (lies text x more xs ys f) (λ ws g h. symbol_upto n (step s a) ys others ws x more (fewer_behind s xs ws a n is (subst (λ (ts : List Symbol). length (tokens ts) < suc n) g l)) rest h)
    where
      by : Lies text x more xs ys → ((ws : List Symbol) → text ≡ xs ++ ws → ys ≡ ws ++ x ∷ more → UptoSymbol n (step s a) ws x) → UptoSymbol (suc n) s text x
      by (in_first left g) rec = record { more = left; whole = a ∷ []; is = subst (λ (ts : List Symbol). Upto (suc n) s ts (a ∷ [])) (append-nil xs ∙ g) (of_first (then a is (made [] (nothing_upto n (step s a))))) }
      by (in_second ws g h) rec =
          let u = rec ws g h in
          record { more = u.more; whole = a ∷ u.whole; is = subst (λ (ts : List Symbol). Upto (suc n) s ts (a ∷ u.whole)) (sym (append_assoc xs ws (x ∷ u.more)) ∙ ap (λ (ts : List Symbol). ts ++ x ∷ u.more) (sym g)) (of_first (then a is (made u.whole u.is))) }

  next_upto : (n : ℕ) (s : S) (us : List Lexeme) (x : Symbol) → length us < n → Next (Repeated E step s) us x → Next (Upto n s) us x
  next_upto n s us x l v =
      let u = symbol_upto n s (v.text ++ x ∷ v.more) v.whole v.text x v.more (subst (λ (ws : List Lexeme). length ws < n) (sym v.parts) l) v.is refl in
      record { text = v.text; more = u.more; whole = u.whole; is = u.is; parts = v.parts; fine = v.fine }

  law_within : (n : ℕ) (s : S) → LawfulOn (Repeated E step s) (λ ts. length ts < n) (elements starts element step n s)
  law_within n s = law_carried (Upto n s) (Repeated E step s) (λ many. many) (λ ts. length ts < n) (record {
    next_in = λ us rest x l. next_as (Upto n s) (Repeated E step s) (upto_is n s) us x;
    whole_in = λ us rest many l. whole_as (Upto n s) (Repeated E step s) (upto_is n s) us many;
    token_out = λ us rest x t l v f. next_upto n s us x (shorter_part us (t ∷ rest) n l) v;
    place_out = λ us rest x r l stops v f g. next_upto n s us x (shorter_part us rest n l) v;
    text_out = λ xs many rest l stops is. (many, text_upto n s xs many (shorter_part (tokens xs) rest n l) is, refl);
  }) (elements starts element step n s) (elements starts element step n s) (λ last ts l. unmapped (elements starts element step n s last ts)) (law_of_some (Upto n s) (elements starts element step n s) (λ ts. length ts < n) (part_upto n s).law)

  law_repeated : (s : S) → Lawful (Repeated E step s) (repeated starts element step s)
  unfolding repeated
  law_repeated s = record {
    tells = λ last ts on. (law_within (suc (length ts)) s).tells last ts (lt-suc_self (length ts));
    reads = λ xs many is last rest on stops. (law_within (suc (length (tokens xs ++ rest))) s).reads xs many is last rest (lt-suc_self (length (tokens xs ++ rest))) stops;
    limits = λ us x t r n f g last rest on. (law_within (suc (length (us ++ t ∷ rest))) s).limits us x t r n f g last rest (lt-suc_self (length (us ++ t ∷ rest)));
    judges = λ us x r n f g last rest on stops. (law_within (suc (length (us ++ rest))) s).judges us x r n f g last rest (lt-suc_self (length (us ++ rest))) stops;
    agrees = λ us x y t on m n f g. (law_within (suc (length (us ++ t ∷ []))) s).agrees us x y t (lt-suc_self (length (us ++ t ∷ []))) m n f g;
  }

  halts_repeated : (s : S) → Halts (Repeated E step s) stop
  halts_repeated s xs many t is f g =
      let n = suc (length (tokens xs)) in
      let l = lt-suc_self (length (tokens xs)) in
      (part_upto n s).halts xs many t (text_upto n s xs many l is) f (record { at = g.at; next = next_upto n s (tokens xs) g.at l g.next; token = g.token })

  pub part_repeated : (s : S) → IsPart (Repeated E step s) (repeated starts element step s) stop
  part_repeated s = record { law = law_repeated s; halts = halts_repeated s }

  -- ---- how a loop reads them

  any_number : (s : S) (last : Refusal) (ts : List Lexeme) (n : ℕ) → length ts < n → repeated starts element step s last ts ≡ elements starts element step n s last ts
  any_number s last ts n l = (exact (Repeated E step s) (repeated starts element step s) (law_repeated s)).only last ts (elements starts element step n s last ts) ((law_within n s).tells last ts l)

  pub fewer : (s : S) (last : Refusal) (ts : List Lexeme) (a : A) (us : List Lexeme) → element s last ts ≡ Ok (a, us) → length us < length ts
  fewer s last ts a us f =
      let g : IsText (E s) ts a us = subst (λ (r : Answer A). Tells (E s) last ts r) f ((e.part s).law.tells last ts tt) in
      let b = (e.start s).begins g.whole.text a g.whole.is in
      let h : length g.us ≡ suc (length (tokens b.more)) = ap length (sym g.whole.parts ∙ begins_tokens starts (e.over s) g.whole.text b) in
      let k : length ts ≡ length g.us + length us = ap length g.parts ∙ length-append g.us us in
      omega arith

  module _ (s : S) (last : Refusal) (ts : List Lexeme) where
    abbrev and_rest : (S → Reader (List A)) → Answer A → Answer (List A)
    and_rest more r = answer_and_then r (λ a us. answer_and_then (more (step s a) last us) (λ rest vs. Ok (a ∷ rest, vs)))

    same_rest : (r : Answer A) → element s last ts ≡ r → and_rest (λ s. elements starts element step (length ts) s) r ≡ and_rest (λ s. repeated starts element step s) r
    same_rest (Ok r) f = ap (λ (m : Answer (List A)). answer_and_then m (λ rest vs. Ok (r.0 ∷ rest, vs))) (sym (any_number (step s r.0) last r.1 (length ts) (fewer s last ts r.0 r.1 f)))
    same_rest (Err r) f = refl

    steps_by : (b : Bool) → starts_at starts (first ts) ≡ b → repeated starts element step s last ts ≡ cond b (and_rest (λ s. repeated starts element step s) (element s last ts)) (Ok ([], ts))
    unfolding repeated elements either
    steps_by true f = rw f (same_rest (element s last ts) refl)
    steps_by false f = rw f refl

    pub steps_repeated : repeated starts element step s last ts ≡ cond (starts_at starts (first ts)) (and_rest (λ s. repeated starts element step s) (element s last ts)) (Ok ([], ts))
    steps_repeated = steps_by (starts_at starts (first ts)) refl

-- ---- at most so many

pub at_most_elements : {A : Type 0} (P : Lang A) (p : Reader A) (starts : Lexeme → Bool) (over : Lexeme → Option RefusalKind) (between stop : Lexeme → Bool) → Starts P starts over → IsPart P p between → ((t : Lexeme) → starts t ≡ true → between t ≡ true) → ((t : Lexeme) → stop t ≡ true → between t ≡ true) → ((t : Lexeme) → stop t ≡ true → starts t ≡ false)
    → AreElements (λ room. Limited P room) (λ room. limited starts over room p) starts between stop
at_most_elements P p starts over between stop start part again ends differ = record {
  over = λ room. limit_at over room;
  start = λ room. starts_limited P starts over start room;
  part = λ room. part_limited P p starts over start between part room;
  again = again;
  ends = ends;
  differ = differ;
}

-- ---- behind separators

module _ {F A B S : Type 0} (P : Lang F) (p : Reader F) (separates : Lexeme → Bool) (E : Lexeme → S → Lang A) (element : Lexeme → S → Reader A) (between stop : Lexeme → Bool) (j : AreChained P p separates E element between stop) (step : S → A → S) (start : F → S) (whole : F → List A → B) where
  pub behind_elements : AreElements (λ s. BehindSign separates E s) (λ s. behind_sign separates element s) separates between stop
  behind_elements = record {
    over = λ s. no_limit;
    start = λ s. starts_then (IsOne separates no_limit) (λ sign. E sign s) separates no_limit (starts_one separates no_limit) (λ sign. some_text (E sign s) (element sign s) (j.part sign s).law);
    part = λ s. part_behind (IsOne separates no_limit) (one separates) (λ sign. E sign s) (λ sign. element sign s) between (part_one separates no_limit j.passing j.passes) (λ sign. j.part sign s);
    again = j.again;
    ends = j.ends;
    differ = j.differ;
  }

  abbrev Further : S → Lang (List A)
  Further s = Repeated (λ s. BehindSign separates E s) step s

  further : (s : S) → IsPart (Further s) (repeated separates (λ s. behind_sign separates element s) step s) stop
  further s = part_repeated (λ s. BehindSign separates E s) (λ s. behind_sign separates element s) step separates between stop behind_elements s

  further_starts : (s : S) → StartsIn (Further s) separates
  further_starts s = starts_in_repeated (λ s. BehindSign separates E s) step separates (λ s. starts_in (BehindSign separates E s) separates (behind_elements.over s) (behind_elements.start s)) s

  pub part_chained : IsPart (Chained P separates E step start whole) (chained p separates element step start whole) stop
  part_chained = part_before P p (λ a. Made (Further (start a)) (λ more. whole a more)) (λ a. repeated separates (λ s. behind_sign separates element s) step (start a) >>= λ more. pure (whole a more)) between stop j.before
      (λ a. part_made (Further (start a)) (λ more. whole a more) (repeated separates (λ s. behind_sign separates element s) step (start a)) stop (further (start a)))
      (λ a. record { begins = λ ys c t m f. j.again t (starts_in_made (Further (start a)) (λ more. whole a more) separates (further_starts (start a)) ys c t m f); empty = λ ys c t m f g. j.ends t g })
