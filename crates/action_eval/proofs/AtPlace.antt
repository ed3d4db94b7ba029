-- What stands at the place of a name.
use Rattle.std.proofs.Common.{◌≡◌, ◌<◌, ◌+◌, ◌∙◌, ℕ, zero, suc, Bool, true, false, List, [], ◌∷◌, length, map, get_or, refl, sym, ap, cond, not, arith}
use Rattle.std.specs.List.{Contains}
use Rattle.std.specs.Str.{bytes_eq}
use Rattle.std.proofs.lemmas.List.{length-map, get_or-map}
use Rattle.std.proofs.lemmas.Slice.Eq.{bytes_eq-Decides}
use Rattle.action_tree.specs.Places.{place_among}
use Rattle.action_meaning.specs.Names.{Bound, port_in}
use Rattle.action_eval.specs.declared.names.Bound as code
use Rattle.action_eval.specs.Known.{bound_of}

-- a text that is among these has a place among them
pub place_below : (names : List (List ℕ)) (text : List ℕ) → Contains names text → place_among names text < length names
place_below names text (k, l, is) = by names k l is
  where
    step : (rest : List (List ℕ)) (b : Bool) → (b ≡ false → place_among rest text < length rest) → cond (not b) (1 + place_among rest text) 0 < suc (length rest)
    step rest true h = omega arith
    step rest false h = omega (arith, h refl)

    by : (known : List (List ℕ)) (k : ℕ) → k < length known → get_or known k text ≡ text → place_among known text < length known
    by [] k l is = absurd (omega arith)
    by (n ∷ known) zero l is = step known (bytes_eq n text) (λ no. let e : bytes_eq n text ≡ true = (bytes_eq-Decides n text).1 is in absurd cc)
    by (n ∷ known) (suc k) l is = step known (bytes_eq n text) (λ no. by known k (omega arith) is)

port_here : (is : Bool) (b : Bound) (bs : List Bound) (text : List ℕ) (n : ℕ) (d : Bound) → (n < length bs → port_in bs text ≡ (get_or bs n d).port) → cond (not is) (1 + n) 0 < suc (length bs) → cond is b.port (port_in bs text) ≡ (get_or (b ∷ bs) (cond (not is) (1 + n) 0) d).port
port_here true b bs text n d rest l = refl
port_here false b bs text n d rest l = let e : 1 + n ≡ suc n = omega arith in rw e (rest (omega arith))

-- the port of a name is that at its place
pub port_at : (bs : List Bound) (text : List ℕ) (d : Bound) → place_among (map (λ (b : Bound). b.text) bs) text < length bs → port_in bs text ≡ (get_or bs (place_among (map (λ (b : Bound). b.text) bs) text) d).port
port_at [] text d l = absurd (omega arith)
port_at (b ∷ bs) text d l = port_here (bytes_eq b.text text) b bs text (place_among (map (λ (c : Bound). c.text) bs) text) d (port_at bs text d) l

-- a name in force stands for a port, that at its place
pub bound_there : (bs : List code.Bound) (text : List ℕ) (n : ℕ) → n ≡ place_among (map (λ (b : Bound). b.text) (map bound_of bs)) text → Contains (map (λ (b : Bound). b.text) (map bound_of bs)) text → n < length bs
bound_there bs text n e has =
    omega (arith, place_below (map (λ (b : Bound). b.text) (map bound_of bs)) text has, length-map bs bound_of, length-map (map bound_of bs) (λ (b : Bound). b.text))

pub port_there : (bs : List code.Bound) (text : List ℕ) (n : ℕ) (d : code.Bound) → n ≡ place_among (map (λ (b : Bound). b.text) (map bound_of bs)) text → n < length bs → (get_or bs n d).port ≡ port_in (map bound_of bs) text
port_there bs text n d e l =
    let at = port_at (map bound_of bs) text (bound_of d) (omega (arith, length-map bs bound_of)) in
    let same = get_or-map bound_of bs n d (bound_of d) l in
    sym (at ∙ ap (λ k. (get_or (map bound_of bs) k (bound_of d)).port) (sym e) ∙ ap (λ (b : Bound). b.port) same)
