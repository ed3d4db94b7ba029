-- The lists in a list of vectors.
use Rattle.std.proofs.Common.{◌≡◌, ◌<◌, ℕ, List, [], ◌∷◌, ◌++◌, map, length, get_or, ap, sym, subst, ◌∙◌, arith, Vec, Global, vec_len}
use Rattle.std.proofs.Math.ListN.{set}
use Rattle.std.specs.List.{All}
use Rattle.std.proofs.lemmas.List.{get_or-map, map-set, length-map}
use Rattle.claim_core.specs.Turns.{IsList}

-- the lists of vectors
abbrev pub lists : {X : Type 0} → List (Vec X Global) → List (List X)
lists {X} vs = map (λ (v : Vec X Global). v.items) vs

-- the list at a place is that of the vector there
pub lists-at : {X : Type 0} (vs : List (Vec X Global)) (i k : ℕ) (v : Vec X Global) → i < length (lists vs) → k ≡ i → v ≡ get_or vs k v → get_or (lists vs) i [] ≡ v.items
lists-at {X} vs i k v inside same read =
    let lt : i < length vs = rw length-map at inside in
    get_or-map (λ (w : Vec X Global). w.items) vs i v [] lt ∙ ap (λ (w : Vec X Global). w.items) (sym (read ∙ ap (λ n. get_or vs n v) same))

-- a caller's list has an id
pub has_id : (vs : List (Vec ℕ Global)) (i k : ℕ) (v : Vec ℕ Global) → All IsList (lists vs) → i < length (lists vs) → k ≡ i → v ≡ get_or vs k v → 0 < vec_len v
has_id vs i k v each inside same read =
    let list = subst IsList (lists-at vs i k v inside same read) (each i [] inside) in
    omega (arith, list.some, v.ok.0)

-- one more element at the end of the list at a place
pub lists-set_push : {X : Type 0} (vs : List (Vec X Global)) (i k : ℕ) (v w : Vec X Global) (x : X) → i < length (lists vs) → k ≡ i → v ≡ get_or vs k v → w.items ≡ v.items ++ x ∷ [] → lists (set vs k w) ≡ set (lists vs) i (get_or (lists vs) i [] ++ x ∷ [])
lists-set_push {X} vs i k v w x inside same read more =
    map-set (λ (u : Vec X Global). u.items) vs k w ∙ ap (λ n. set (lists vs) n w.items) same ∙ ap (λ xs. set (lists vs) i xs) (more ∙ ap (λ xs. xs ++ x ∷ []) (sym (lists-at vs i k v inside same read)))
