-- Several printed parts, one behind the other, as any grammar puts them together.
use Rattle.std.proofs.Common.{◌≡◌, List, ◌++◌, refl, sym, subst}
use Rattle.text_tokens.specs.Lines.{Words}
use Rattle.text_tokens.specs.Grammar.{Symbol, Lang}
use Rattle.text_tokens.proofs.LinesLemmas.{Rereads, rereads_two}

-- two parts as one
pub record Both {A B : Type 0} (P : Lang A) (Q : Lang B) (text : List Symbol) (c : A × B) : Type 0 where
  pub one : List Symbol
  pub other : List Symbol
  pub whole : text ≡ one ++ other
  pub first : P one c.0
  pub second : Q other c.1

pub rereads_both : {A B : Type 0} {P : Lang A} {Q : Lang B} {R : A → Type 0} {S : B → Type 0} {ws vs : Words} → Rereads P R ws → Rereads Q S vs → Rereads (Both P Q) (λ c. R c.0 × S c.1) (ws ++ vs)
rereads_both p q = rereads_two (λ a b. (a, b)) (λ xs ys a b x y. record { one = xs; other = ys; whole = refl; first = x; second = y }) (λ a b x y. (x, y)) p q

pub rereads_three : {A B C D : Type 0} {P : Lang A} {Q : Lang B} {U : Lang C} {G : Lang D} {R : A → Type 0} {S : B → Type 0} {V : C → Type 0} {T : D → Type 0} {ws vs us : Words} (f : A → B → C → D)
    → ((xs ys zs : List Symbol) (a : A) (b : B) (c : C) → P xs a → Q ys b → U zs c → G (xs ++ (ys ++ zs)) (f a b c)) → ((a : A) (b : B) (c : C) → R a → S b → V c → T (f a b c))
    → Rereads P R ws → Rereads Q S vs → Rereads U V us → Rereads G T (ws ++ (vs ++ us))
rereads_three {G = G} f is holds p q r =
    rereads_two (λ a c. f a c.0 c.1) (λ xs ys a c x y. subst (λ (zs : List Symbol). G (xs ++ zs) (f a c.0 c.1)) (sym y.whole) (is xs y.one y.other a c.0 c.1 x y.first y.second)) (λ a c x y. holds a c.0 c.1 x y.0 y.1) p (rereads_both q r)

pub rereads_four : {A B C D E : Type 0} {P : Lang A} {Q : Lang B} {U : Lang C} {W : Lang D} {G : Lang E} {R : A → Type 0} {S : B → Type 0} {V : C → Type 0} {X : D → Type 0} {T : E → Type 0} {ws vs us ts : Words} (f : A → B → C → D → E)
    → ((xs ys zs os : List Symbol) (a : A) (b : B) (c : C) (d : D) → P xs a → Q ys b → U zs c → W os d → G (xs ++ (ys ++ (zs ++ os))) (f a b c d)) → ((a : A) (b : B) (c : C) (d : D) → R a → S b → V c → X d → T (f a b c d))
    → Rereads P R ws → Rereads Q S vs → Rereads U V us → Rereads W X ts → Rereads G T (ws ++ (vs ++ (us ++ ts)))
rereads_four {G = G} f is holds p q r s =
    rereads_three (λ a b c. f a b c.0 c.1) (λ xs ys zs a b c x y z. subst (λ (os : List Symbol). G (xs ++ (ys ++ os)) (f a b c.0 c.1)) (sym z.whole) (is xs ys z.one z.other a b c.0 c.1 x y z.first z.second)) (λ a b c x y z. holds a b c.0 c.1 x y z.0 z.1) p q (rereads_both r s)

pub rereads_five : {A B C D E F : Type 0} {P : Lang A} {Q : Lang B} {U : Lang C} {W : Lang D} {Y : Lang E} {G : Lang F} {R : A → Type 0} {S : B → Type 0} {V : C → Type 0} {X : D → Type 0} {Z : E → Type 0} {T : F → Type 0} {ws vs us ts os : Words} (f : A → B → C → D → E → F)
    → ((xs ys zs ls ms : List Symbol) (a : A) (b : B) (c : C) (d : D) (e : E) → P xs a → Q ys b → U zs c → W ls d → Y ms e → G (xs ++ (ys ++ (zs ++ (ls ++ ms)))) (f a b c d e))
    → ((a : A) (b : B) (c : C) (d : D) (e : E) → R a → S b → V c → X d → Z e → T (f a b c d e))
    → Rereads P R ws → Rereads Q S vs → Rereads U V us → Rereads W X ts → Rereads Y Z os → Rereads G T (ws ++ (vs ++ (us ++ (ts ++ os))))
rereads_five {G = G} f is holds p q r s t =
    rereads_four (λ a b c d. f a b c d.0 d.1) (λ xs ys zs ls a b c d x y z l. subst (λ (ms : List Symbol). G (xs ++ (ys ++ (zs ++ ms))) (f a b c d.0 d.1)) (sym l.whole) (is xs ys zs l.one l.other a b c d.0 d.1 x y z l.first l.second))
    (λ a b c d x y z l. holds a b c d.0 d.1 x y z l.0 l.1) p q r (rereads_both s t)

pub rereads_six : {A B C D E F H : Type 0} {P : Lang A} {Q : Lang B} {U : Lang C} {W : Lang D} {Y : Lang E} {K : Lang F} {G : Lang H} {R : A → Type 0} {S : B → Type 0} {V : C → Type 0} {X : D → Type 0} {Z : E → Type 0} {M : F → Type 0} {T : H → Type 0}
    {ws vs us ts os ks : Words} (f : A → B → C → D → E → F → H)
    → ((xs ys zs ls ms ns : List Symbol) (a : A) (b : B) (c : C) (d : D) (e : E) (g : F) → P xs a → Q ys b → U zs c → W ls d → Y ms e → K ns g → G (xs ++ (ys ++ (zs ++ (ls ++ (ms ++ ns))))) (f a b c d e g))
    → ((a : A) (b : B) (c : C) (d : D) (e : E) (g : F) → R a → S b → V c → X d → Z e → M g → T (f a b c d e g))
    → Rereads P R ws → Rereads Q S vs → Rereads U V us → Rereads W X ts → Rereads Y Z os → Rereads K M ks → Rereads G T (ws ++ (vs ++ (us ++ (ts ++ (os ++ ks)))))
rereads_six {G = G} f is holds p q r s t u =
    rereads_five (λ a b c d e. f a b c d e.0 e.1) (λ xs ys zs ls ms a b c d e x y z l m. subst (λ (ns : List Symbol). G (xs ++ (ys ++ (zs ++ (ls ++ ns)))) (f a b c d e.0 e.1)) (sym m.whole) (is xs ys zs ls m.one m.other a b c d e.0 e.1 x y z l m.first m.second))
    (λ a b c d e x y z l m. holds a b c d e.0 e.1 x y z l m.0 m.1) p q r s (rereads_both t u)
