-- What is skipped between tokens, by the scan and by the definition.
use Rattle.std.proofs.Common.{◌≡◌, ℕ, suc, ◌+◌, ◌≤◌, Bool, true, false, cond, List, [], ◌∷◌, ◌++◌, length, take, drop, refl, sym, ap, subst, ◌∙◌, arith, length-drop}
use Rattle.std.proofs.lemmas.List.{drop-drop}
use Rattle.std.proofs.lemmas.List.Sums.{sum_by-append}
use Rattle.std.proofs.Math.Seq.{take-add}
use Rattle.std.specs.List.{list_all, count_by}
use Rattle.std.specs.Prelude.{◌==◌}
use Rattle.std.proofs.lemmas.Bool.Decides.{nat_tests}
use Rattle.std.proofs.lemmas.Bool.{and_parts, or_parts}
use Rattle.text_tokens.specs.Text.{is_blank, is_in_line, Skips, nothing, blank, comment, last_comment, IsSkipped, line_at, Comes}
use Rattle.text_tokens.specs.Scan.{Between, LineFeed, Blank, Comment, Start, Input, between_at, skip_by, skip, ready}
use Rattle.text_tokens.proofs.ScanLemmas.{start_outside}

-- ---- the text that is left, without places and lines

abbrev rest_by : Between → List ℕ → List ℕ → List ℕ → List ℕ → List ℕ
rest_by LineFeed outside same inside here = outside
rest_by Blank outside same inside here = same
rest_by Comment outside same inside here = inside
rest_by Start outside same inside here = here

unfoldable pub rest_of : Bool → List ℕ → List ℕ
rest_of inside [] = []
rest_of inside (b ∷ text) = rest_by (between_at inside b) (rest_of false text) (rest_of inside text) (rest_of true text) (b ∷ text)

skip_rest_by : (k : Between) (x y z : Input) (u v w : List ℕ) (here : Input) → x.text ≡ u → y.text ≡ v → z.text ≡ w → (skip_by k x y z here).text ≡ rest_by k u v w here.text
skip_rest_by LineFeed x y z u v w here p q r = p
skip_rest_by Blank x y z u v w here p q r = q
skip_rest_by Comment x y z u v w here p q r = r
skip_rest_by Start x y z u v w here p q r = refl

pub skip_rest : (text : List ℕ) (inside : Bool) (at line : ℕ) → (skip inside at line text).text ≡ rest_of inside text
unfolding skip rest_of
skip_rest [] inside at line = refl
skip_rest (b ∷ text) inside at line = skip_rest_by (between_at inside b) _ _ _ _ _ _ (record { text = b ∷ text; at = at; line = line }) (skip_rest text false (at + 1) (line + 1)) (skip_rest text inside (at + 1) line) (skip_rest text true (at + 1) line)

-- ---- bytes between tokens

start_by : (p q r : Bool) → q ≡ false → p ≡ false → r ≡ false → cond p LineFeed (cond q Blank (cond r Comment Start)) ≡ Start
start_by p q r e f g = rw (f, e, g) refl

is_start : (b : ℕ) → is_blank b ≡ false → (b == 35) ≡ false → between_at false b ≡ Start
is_start b e f = start_by (b == 10) (is_blank b) (b == 35) e (or_parts _ (b == 10) e).1 f

start_is_by : (p q r : Bool) → cond p LineFeed (cond q Blank (cond r Comment Start)) ≡ Start → (q ≡ false) × (r ≡ false)
start_is_by true q r e = absurd cc
start_is_by false true r e = absurd cc
start_is_by false false true e = absurd cc
start_is_by false false false e = (refl, refl)

-- ---- the definition gives what the scan gives

skips_here : (rest : List ℕ) → IsSkipped rest → rest_of false rest ≡ rest
unfolding rest_of
skips_here [] h = refl
skips_here (b ∷ rest) h = let s : between_at false b ≡ Start = is_start b h.0 h.1 in rw s refl

blank_by : (p q r : Bool) (u : List ℕ) (here : List ℕ) (inside : List ℕ) → q ≡ true → rest_by (cond p LineFeed (cond q Blank (cond r Comment Start))) u u inside here ≡ u
blank_by true q r u here inside e = refl
blank_by false q r u here inside e = rw e refl

skips_blank : (b : ℕ) (text : List ℕ) → is_blank b ≡ true → rest_of false (b ∷ text) ≡ rest_of false text
unfolding rest_of
skips_blank b text e = blank_by (b == 10) (is_blank b) (b == 35) (rest_of false text) (b ∷ text) (rest_of true text) e

in_line_by : (p : Bool) → cond p false true ≡ true → p ≡ false
in_line_by true e = absurd cc
in_line_by false e = refl

pub in_line : (b : ℕ) → is_in_line b ≡ true → (b == 10) ≡ false
in_line b e = in_line_by (b == 10) e

skips_comment : (inside text : List ℕ) → list_all is_in_line inside ≡ true → rest_of true (inside ++ 10 ∷ text) ≡ rest_of false text
unfolding rest_of
skips_comment [] text e = refl
skips_comment (b ∷ inside) text e =
    let a = and_parts (is_in_line b) (list_all is_in_line inside) e in
    let n : (b == 10) ≡ false = in_line b a.0 in
    rw n (skips_comment inside text a.1)

skips_last : (inside : List ℕ) → list_all is_in_line inside ≡ true → rest_of true inside ≡ []
unfolding rest_of
skips_last [] e = refl
skips_last (b ∷ inside) e =
    let a = and_parts (is_in_line b) (list_all is_in_line inside) e in
    let n : (b == 10) ≡ false = in_line b a.0 in
    rw n (skips_last inside a.1)

pub skips_rest : (text rest : List ℕ) → Skips text rest → IsSkipped rest → rest_of false text ≡ rest
unfolding rest_of
skips_rest text rest nothing h = skips_here rest h
skips_rest text rest (blank {b = b} {text = more} e s) h = skips_blank b more e ∙ skips_rest more rest s h
skips_rest text rest (comment inside more e s) h = skips_comment inside more e ∙ skips_rest more rest s h
skips_rest text rest (last_comment inside e) h = skips_last inside e

-- ---- the scan gives what the definition allows

-- a text behind the # of a comment, and what is left behind blanks and comments
data Inside : List ℕ → List ℕ → Type 0 where
  closed : {rest : List ℕ} → (inside text : List ℕ) → list_all is_in_line inside ≡ true → Skips text rest → Inside (inside ++ 10 ∷ text) rest
  unclosed : (inside : List ℕ) → list_all is_in_line inside ≡ true → Inside inside []

from_hash : (text rest : List ℕ) → Inside text rest → Skips (35 ∷ text) rest
from_hash text rest (closed inside more e s) = comment inside more e s
from_hash text rest (unclosed inside e) = last_comment inside e

goes_on : (b : ℕ) (text rest : List ℕ) → (b == 10) ≡ false → Inside text rest → Inside (b ∷ text) rest
goes_on b text rest n (closed inside more e s) = closed (b ∷ inside) more (rw n e) s
goes_on b text rest n (unclosed inside e) = unclosed (b ∷ inside) (rw n e)

outside_by : (b : ℕ) (text u v : List ℕ) (p q r : Bool) → (b == 10) ≡ p → is_blank b ≡ q → (b == 35) ≡ r → Skips text u → Inside text v
    → Skips (b ∷ text) (rest_by (cond p LineFeed (cond q Blank (cond r Comment Start))) u u v (b ∷ text))
outside_by b text u v true q r e f g s i = blank (grind (arith, nat_tests)) s
outside_by b text u v false true r e f g s i = blank f s
outside_by b text u v false false true e f g s i = let is : 35 ≡ b = grind (arith, nat_tests) in subst (λ (x : ℕ). Skips (x ∷ text) v) is (from_hash text v i)
outside_by b text u v false false false e f g s i = nothing

inside_by : (b : ℕ) (text u v : List ℕ) (p : Bool) → (b == 10) ≡ p → Skips text u → Inside text v → Inside (b ∷ text) (rest_by (cond p LineFeed Blank) u v v (b ∷ text))
inside_by b text u v true e s i = let is : 10 ≡ b = grind (arith, nat_tests) in subst (λ (x : ℕ). Inside (x ∷ text) u) is (closed [] text refl s)
inside_by b text u v false e s i = goes_on b text v e i

both_skip : (text : List ℕ) → Skips text (rest_of false text) × Inside text (rest_of true text)
unfolding rest_of
both_skip [] = (nothing, unclosed [] refl)
both_skip (b ∷ text) =
    let h = both_skip text in
    (outside_by b text _ _ (b == 10) (is_blank b) (b == 35) refl refl refl h.0 h.1, inside_by b text _ _ (b == 10) refl h.0 h.1)

pub rest_skips : (text : List ℕ) → Skips text (rest_of false text)
rest_skips text = (both_skip text).0

skipped_by : (k : Between) (b : ℕ) (text u v w : List ℕ) → (k ≡ Start → IsSkipped (b ∷ text)) → IsSkipped u → IsSkipped v → IsSkipped w → IsSkipped (rest_by k u v w (b ∷ text))
skipped_by LineFeed b text u v w s p q r = p
skipped_by Blank b text u v w s p q r = q
skipped_by Comment b text u v w s p q r = r
skipped_by Start b text u v w s p q r = s refl

starts_skipped : (inside : Bool) (b : ℕ) (text : List ℕ) → between_at inside b ≡ Start → IsSkipped (b ∷ text)
starts_skipped inside b text e = start_is_by (b == 10) (is_blank b) (b == 35) (start_outside inside b e)

pub rest_skipped : (text : List ℕ) (inside : Bool) → IsSkipped (rest_of inside text)
unfolding rest_of
rest_skipped [] inside = tt
rest_skipped (b ∷ text) inside = skipped_by (between_at inside b) b text _ _ _ (starts_skipped inside b text) (rest_skipped text false) (rest_skipped text inside) (rest_skipped text true)

-- ---- places and lines

-- the input is what is left of the source from its place on, with the line of that place
pub record IsPlace (source : List ℕ) (i : Input) : Type 0 where
  pub text : i.text ≡ drop i.at source
  pub within : i.at ≤ length source
  pub line : i.line ≡ line_at source i.at

-- a place that is no earlier
pub record IsLater (source : List ℕ) (at : ℕ) (i : Input) : Type 0 where
  pub point : IsPlace source i
  pub later : at ≤ i.at

-- behind some bytes of the text
pub line_past : (source : List ℕ) (at len : ℕ) → line_at source (at + len) ≡ line_at source at + count_by (λ b. b == 10) (take len (drop at source))
line_past source at len = rw (take-add at len source, sum_by-append (λ (b : ℕ). cond (b == 10) 1 0) (take at source) (take len (drop at source))) (omega arith)

step_within : (source text : List ℕ) (b at : ℕ) → b ∷ text ≡ drop at source → at + 1 ≤ length source
step_within source text b at e =
    let l : suc (length text) ≡ length (drop at source) = ap length e in
    omega (arith, length-drop at source)

step_text : (source text : List ℕ) (b at : ℕ) → b ∷ text ≡ drop at source → text ≡ drop (at + 1) source
step_text source text b at e = ap (drop 1) e ∙ drop-drop 1 at source

step_line : (source text : List ℕ) (b at : ℕ) → b ∷ text ≡ drop at source → line_at source (at + 1) ≡ line_at source at + cond (b == 10) 1 0
step_line source text b at e = line_past source at 1 ∙ rw (← e) (omega arith)

step_place : (source text : List ℕ) (b at line : ℕ) (p : Bool) → (b == 10) ≡ p → IsPlace source (record { text = b ∷ text; at = at; line = line }) → IsPlace source (record { text = text; at = at + 1; line = line + cond p 1 0 })
step_place source text b at line p e h = record {
  text = step_text source text b at h.text;
  within = step_within source text b at h.text;
  line = ap (λ (n : ℕ). n + cond p 1 0) h.line ∙ ap (λ (q : Bool). line_at source at + cond q 1 0) (sym e) ∙ sym (step_line source text b at h.text);
}

later_cases : (source : List ℕ) (at : ℕ) (p inside q r : Bool) (x y z here : Input) → (p ≡ true → IsLater source at x) → (p ≡ false → IsLater source at y) → (p ≡ false → IsLater source at z) → IsLater source at here
    → IsLater source at (skip_by (cond p LineFeed (cond inside Blank (cond q Blank (cond r Comment Start)))) x y z here)
later_cases source at true inside q r x y z here f g k h = f refl
later_cases source at false true q r x y z here f g k h = g refl
later_cases source at false false true r x y z here f g k h = g refl
later_cases source at false false false true x y z here f g k h = k refl
later_cases source at false false false false x y z here f g k h = h

one_later : (source : List ℕ) (at : ℕ) (i : Input) → IsLater source (at + 1) i → IsLater source at i
one_later source at i h = let l = h.later in record { point = h.point; later = omega arith }

same_line : (source text : List ℕ) (at line : ℕ) → IsPlace source (record { text = text; at = at; line = line + 0 }) → IsPlace source (record { text = text; at = at; line = line })
same_line source text at line h = let l = h.line in record { text = h.text; within = h.within; line = omega arith }

pub skip_later : (source text : List ℕ) (inside : Bool) (at line : ℕ) → IsPlace source (record { text = text; at = at; line = line }) → IsLater source at (skip inside at line text)
unfolding skip
skip_later source [] inside at line h = record { point = h; later = omega arith }
skip_later source (b ∷ text) inside at line h = later_cases source at (b == 10) inside (is_blank b) (b == 35) _ _ _ (record { text = b ∷ text; at = at; line = line })
    (λ e. one_later source at _ (skip_later source text false (at + 1) (line + 1) (step_place source text b at line true e h)))
    (λ e. one_later source at _ (skip_later source text inside (at + 1) line (same_line source text (at + 1) line (step_place source text b at line false e h))))
    (λ e. one_later source at _ (skip_later source text true (at + 1) line (same_line source text (at + 1) line (step_place source text b at line false e h))))
    (record { point = h; later = omega arith })

-- the place with its line
abbrev pub point : List ℕ → ℕ → Input
point source at = record { text = drop at source; at = at; line = line_at source at }

pub at_place : (source : List ℕ) (at : ℕ) → at ≤ length source → IsPlace source (point source at)
at_place source at le = record { text = refl; within = le; line = refl }

pub place_is : (source : List ℕ) (i : Input) → IsPlace source i → i ≡ point source i.at
place_is source i h = ap (λ (text : List ℕ). record { text = text; at = i.at; line = i.line }) h.text ∙ ap (λ (line : ℕ). record { text = drop i.at source; at = i.at; line = line }) h.line

-- what comes next by the scan
pub ready_comes : (source : List ℕ) (i : Input) → IsPlace source i → Comes source i.at (ready i).at × IsPlace source (ready i)
unfolding ready
ready_comes source i h =
    let l = skip_later source i.text false i.at i.line h in
    let text : drop (skip false i.at i.line i.text).at source ≡ rest_of false (drop i.at source) = sym l.point.text ∙ skip_rest i.text false i.at i.line ∙ ap (rest_of false) h.text in (
      record {
        behind = l.later;
        within = l.point.within;
        skips = subst (λ (rest : List ℕ). Skips (drop i.at source) rest) (sym text) (rest_skips (drop i.at source));
        skipped = subst IsSkipped (sym text) (rest_skipped (drop i.at source) false);
      },
      l.point,
    )

same_place : (source : List ℕ) (m n : ℕ) → m ≤ length source → n ≤ length source → drop m source ≡ drop n source → m ≡ n
same_place source m n p q e = let l = ap length e in omega (arith, length-drop m source, length-drop n source)

-- and by the definition
pub comes_ready : (source : List ℕ) (at from : ℕ) → at ≤ length source → Comes source at from → ready (point source at) ≡ point source from
unfolding ready
comes_ready source at from le c =
    let l = skip_later source (drop at source) false at (line_at source at) (at_place source at le) in
    let text : drop (skip false at (line_at source at) (drop at source)).at source ≡ drop from source =
    sym l.point.text ∙ skip_rest (drop at source) false at (line_at source at) ∙ skips_rest (drop at source) (drop from source) c.skips c.skipped in
    place_is source (skip false at (line_at source at) (drop at source)) l.point
    ∙ ap (point source) (same_place source _ from l.point.within c.within text)
