-- Texts of symbols, one behind the other.
use Rattle.std.proofs.Common.{◌≡◌, List, [], ◌∷◌, ◌++◌, Option, Some, None, refl, sym, ap, ◌∙◌, append_assoc}
use Rattle.std.specs.Option.{option_or}
use Rattle.text_tokens.specs.declared.refusal.Refusal.{Refusal}
use Rattle.text_tokens.specs.Text.{Lexeme}
use Rattle.text_tokens.specs.Reading.{first}
use Rattle.text_tokens.specs.Grammar.{Symbol, with_token, tokens, first_fault, Lang, Then, then}
use Rattle.text_tokens.specs.Lawful.{IsWhole}

with-append : (o : Option Lexeme) (ts us : List Lexeme) → with_token o (ts ++ us) ≡ with_token o ts ++ us
with-append None ts us = refl
with-append (Some t) ts us = refl

pub tokens-append : (xs ys : List Symbol) → tokens (xs ++ ys) ≡ tokens xs ++ tokens ys
tokens-append [] ys = refl
tokens-append (x ∷ xs) ys = ap (with_token x.token) (tokens-append xs ys) ∙ with-append x.token (tokens xs) (tokens ys)

-- with what follows
pub regroup : (xs ys : List Symbol) (ts : List Lexeme) → tokens (xs ++ ys) ++ ts ≡ tokens xs ++ (tokens ys ++ ts)
regroup xs ys ts = ap (λ (us : List Lexeme). us ++ ts) (tokens-append xs ys) ∙ append_assoc (tokens xs) (tokens ys) ts

or_else_assoc : (o p q : Option Refusal) → option_or o (option_or p q) ≡ option_or (option_or o p) q
or_else_assoc None p q = refl
or_else_assoc (Some r) p q = refl

pub fault-append : (xs ys : List Symbol) → first_fault (xs ++ ys) ≡ option_or (first_fault xs) (first_fault ys)
fault-append [] ys = refl
fault-append (x ∷ xs) ys = ap (option_or x.fault) (fault-append xs ys) ∙ or_else_assoc x.fault (first_fault xs) (first_fault ys)

pub fine-append : (xs ys : List Symbol) → first_fault xs ≡ None → first_fault ys ≡ None → first_fault (xs ++ ys) ≡ None
fine-append xs ys p q = fault-append xs ys ∙ ap (λ (o : Option Refusal). option_or o (first_fault ys)) p ∙ q

pub first-append : (ts us vs : List Lexeme) → first us ≡ first vs → first (ts ++ us) ≡ first (ts ++ vs)
first-append [] us vs e = e
first-append (t ∷ ts) us vs e = refl

-- whole texts, one behind the other
pub whole_two : {A B C : Type 0} {P : Lang A} {Q : A → Lang B} {G : Lang C} (f : A → B → C) → ((xs ys : List Symbol) (a : A) (b : B) → P xs a → Q a ys b → G (xs ++ ys) (f a b))
    → (us vs ts : List Lexeme) (a : A) (b : B) → ts ≡ us ++ vs → IsWhole P us a → IsWhole (Q a) vs b → IsWhole G ts (f a b)
whole_two f is us vs ts a b e p q = record {
  text = p.text ++ q.text;
  is = is p.text q.text a b p.is q.is;
  parts = tokens-append p.text q.text ∙ ap (λ (ws : List Lexeme). ws ++ tokens q.text) p.parts ∙ ap (λ (ws : List Lexeme). us ++ ws) q.parts ∙ sym e;
  fine = fine-append p.text q.text p.fine q.fine;
}

pub whole_then : {A B : Type 0} {P : Lang A} {Q : A → Lang B} (us vs ts : List Lexeme) (a : A) (b : B) → ts ≡ us ++ vs → IsWhole P us a → IsWhole (Q a) vs b → IsWhole (Then P Q) ts b
whole_then us vs ts a b e p q = whole_two (λ a b. b) (λ xs ys a b p q. then a p q) us vs ts a b e p q
