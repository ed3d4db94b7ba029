-- What is read one level deeper, and by the role of the next token.
use Rattle.std.proofs.Common.{◌≡◌, ◌<◌, ◌-◌, ℕ, zero, suc, Bool, cond, List, [], ◌∷◌, Option, Some, None, Result, Err, refl, sym, ap, ◌∙◌, arith, ◌⊎◌, inl, inr}
use Rattle.std.specs.Prelude.{option_map}
use Rattle.text_tokens.specs.declared.refusal.Refusal.{Refusal}
use Rattle.text_tokens.specs.declared.refusal.ReadRefusal.{ReadRefusal}
use Rattle.text_tokens.specs.declared.refusal.ReadRefusal.TheVariants.{Refused}
use Rattle.text_tokens.specs.declared.refusal.RefusalKind.TheVariants.{Unexpected}
use Rattle.text_tokens.specs.Text.{Lexeme}
use Rattle.text_tokens.specs.Cursor.{Cursor, refusal_at}
use Rattle.text_tokens.specs.Reading.{Reader, first, ◌>>=◌, by_role, refuse, less}
use Rattle.text_tokens.specs.Steps.{Gives}
use Rattle.text_tokens.proofs.StepsLemmas.{Failed, stays, stays_on, gives_as}
use Rattle.text_tokens.proofs.LoopLemmas.{less_is}
use Rattle.text_tokens.proofs.Rows.{Left, gives_left}
use Rattle.action_tree.specs.Trees.{Guard, Stmts}
use Rattle.action_tree.specs.declared.role.Role.{Role}
use Rattle.action_tree.specs.declared.role.Role.TheVariants.{AName, ANumber, OpenSign, NotWord, AtomWord, QuantifierWord, TestWord, FreeWord, CountWord, SideWord, InnerWord, Mod6Word, EndWord, TurnWord, FirstWord, DotSign, BecomesSign, LetWord, IfWord, ForWord, NoneWord, ThroughWord, ContractWord}
use Rattle.action_tree.specs.Roles.{role}
use Rattle.action_tree.specs.ExpressionReaders.{Readers, readers, inside, begins_sum, a_comparison, a_test, a_port, member, unit_by, term_by, port_by}
use Rattle.action_tree.specs.ExpressionReaders.{port_at}
use Rattle.action_tree.specs.StatementReaders.{stmts_inside, stmts_at, stmt_by, put_by, put_member}
use Rattle.action_tree.specs.ProgramReaders.{move_by}
use Rattle.action_parser.proofs.RoleFacts.{chosen_by}

-- ---- levels

inside_is : (n left : ℕ) → 0 < n → inside n left ≡ readers (n - 1) left (inside (n - 1))
unfolding inside
inside_is zero left some = absurd (omega arith)
inside_is (suc m) left some = let e : suc m - 1 ≡ m = omega arith in rw e refl

module _ {A B : Type 0} (f : Readers → Reader B) (view : A → B) (n left : ℕ) (old new : Cursor) (r : Result A ReadRefusal) (some : 0 < n) where
  pub gives_below : Gives view (f (readers (n - 1) left (inside (n - 1)))) old r new → Gives view (f (inside n left)) old r new
  gives_below g = gives_as view (f (inside n left)) (f (readers (n - 1) left (inside (n - 1)))) old new r (ap (λ (k : Readers). f k old.last old.ahead) (inside_is n left some)) g

  -- and with a name less
  pub gives_bound : Gives view (f (readers (n - 1) (left - 1) (inside (n - 1)))) old r new → Gives view (f (inside n (less left))) old r new
  gives_bound g = gives_as view (f (inside n (less left))) (f (readers (n - 1) (left - 1) (inside (n - 1)))) old new r
      (ap (λ (l : ℕ). f (inside n l) old.last old.ahead) (less_is left) ∙ ap (λ (k : Readers). f k old.last old.ahead) (inside_is n (left - 1) some)) g

-- ---- by the role of the next token

pub next_is : {o next : Option Role} {r k : Role} → o ≡ next → o ≡ Some r → r ≡ k → next ≡ Some k
next_is e some is = sym e ∙ some ∙ ap (λ (r : Role). Some r) is

module _ {A : Type 0} (p : Role → Reader A) (start : Cursor) where
  pub chosen : (r : Role) → option_map role (first start.ahead) ≡ Some r → Left (by_role role p) start (p r) start
  chosen r e = record { reads = chosen_by p r start.last start.ahead e; stays = stays start }

  -- which reads as this
  pub chosen_as : (r : Role) (q : Reader A) → option_map role (first start.ahead) ≡ Some r → p r ≡ q → Left (by_role role p) start q start
  chosen_as r q e is = record { reads = chosen_by p r start.last start.ahead e ∙ ap (λ (q : Reader A). q start.last start.ahead) is; stays = stays start }

  ended_by : (last : Refusal) (ts : List Lexeme) → option_map role (first ts) ≡ None → by_role role p last ts ≡ Err (refusal_at last Unexpected ts)
  unfolding by_role
  ended_by last [] e = refl
  ended_by last (t ∷ ts) e = absurd cc

  -- no token is left
  pub none_chosen : (k : ReadRefusal) → option_map role (first start.ahead) ≡ None → k ≡ Refused (refusal_at start.last Unexpected start.ahead) → Failed (by_role role p) k start start
  none_chosen k e is = rw is (ended_by start.last start.ahead e, stays start)

  -- nothing begins with the next token
  pub none_begins : (r : Role) (k : ReadRefusal) → option_map role (first start.ahead) ≡ Some r → p r ≡ refuse → k ≡ Refused (refusal_at start.last Unexpected start.ahead) → Failed (by_role role p) k start start
  none_begins r k e none is = rw is (chosen_by p r start.last start.ahead e ∙ ap (λ (q : Reader A). q start.last start.ahead) none, stays start)

-- ---- forms by their roles

module _ (n left : ℕ) (below : ℕ → Readers) where
  abbrev Compared : Bool → Reader Guard
  Compared b = cond b (a_comparison n left below) refuse

  -- the role of no other form
  pub unit_rest : (r : Role) (b : Bool) → begins_sum r ≡ b → (r ≡ AtomWord → ⊥) → (r ≡ NotWord → ⊥) → (r ≡ OpenSign → ⊥) → (r ≡ QuantifierWord → ⊥) → (r ≡ TestWord → ⊥) → (r ≡ FreeWord → ⊥) → unit_by n left below r ≡ Compared b
  unit_rest AtomWord b e f0 f1 f2 f3 f4 f5 = absurd (f0 refl)
  unit_rest NotWord b e f0 f1 f2 f3 f4 f5 = absurd (f1 refl)
  unit_rest OpenSign b e f0 f1 f2 f3 f4 f5 = absurd (f2 refl)
  unit_rest QuantifierWord b e f0 f1 f2 f3 f4 f5 = absurd (f3 refl)
  unit_rest TestWord b e f0 f1 f2 f3 f4 f5 = absurd (f4 refl)
  unit_rest FreeWord b e f0 f1 f2 f3 f4 f5 = absurd (f5 refl)
  unit_rest _ b e f0 f1 f2 f3 f4 f5 = ap Compared e

  pub term_rest : (r : Role) → (r ≡ ANumber → ⊥) → (r ≡ AName → ⊥) → (r ≡ EndWord → ⊥) → (r ≡ TurnWord → ⊥) → (r ≡ FirstWord → ⊥) → (r ≡ CountWord → ⊥) → (r ≡ SideWord → ⊥) → (r ≡ InnerWord → ⊥) → (r ≡ Mod6Word → ⊥) → term_by n left below r ≡ refuse
  term_rest ANumber f0 f1 f2 f3 f4 f5 f6 f7 f8 = absurd (f0 refl)
  term_rest AName f0 f1 f2 f3 f4 f5 f6 f7 f8 = absurd (f1 refl)
  term_rest EndWord f0 f1 f2 f3 f4 f5 f6 f7 f8 = absurd (f2 refl)
  term_rest TurnWord f0 f1 f2 f3 f4 f5 f6 f7 f8 = absurd (f3 refl)
  term_rest FirstWord f0 f1 f2 f3 f4 f5 f6 f7 f8 = absurd (f4 refl)
  term_rest CountWord f0 f1 f2 f3 f4 f5 f6 f7 f8 = absurd (f5 refl)
  term_rest SideWord f0 f1 f2 f3 f4 f5 f6 f7 f8 = absurd (f6 refl)
  term_rest InnerWord f0 f1 f2 f3 f4 f5 f6 f7 f8 = absurd (f7 refl)
  term_rest Mod6Word f0 f1 f2 f3 f4 f5 f6 f7 f8 = absurd (f8 refl)
  term_rest _ f0 f1 f2 f3 f4 f5 f6 f7 f8 = refl

  pub port_rest : (r : Role) → (r ≡ AName → ⊥) → (r ≡ EndWord → ⊥) → (r ≡ TurnWord → ⊥) → (r ≡ FirstWord → ⊥) → port_by n left below r ≡ refuse
  port_rest AName f0 f1 f2 f3 = absurd (f0 refl)
  port_rest EndWord f0 f1 f2 f3 = absurd (f1 refl)
  port_rest TurnWord f0 f1 f2 f3 = absurd (f2 refl)
  port_rest FirstWord f0 f1 f2 f3 = absurd (f3 refl)
  port_rest _ f0 f1 f2 f3 = refl

  -- a form that begins with words of several roles
  pub test_unit : (r : Role) → (r ≡ TestWord) ⊎ (r ≡ FreeWord) → unit_by n left below r ≡ a_test n left below
  test_unit r (inl e) = rw e refl
  test_unit r (inr e) = rw e refl

  pub port_term : (r : Role) → (r ≡ EndWord) ⊎ ((r ≡ TurnWord) ⊎ (r ≡ FirstWord)) → term_by n left below r ≡ (a_port n left below >>= member)
  port_term r (inl e) = rw e refl
  port_term r (inr (inl e)) = rw e refl
  port_term r (inr (inr e)) = rw e refl

-- ---- statements

stmts_are : (n left : ℕ) → 0 < n → stmts_inside n left ≡ stmts_at (n - 1) left
unfolding stmts_inside
stmts_are zero left some = absurd (omega arith)
stmts_are (suc m) left some = let e : suc m - 1 ≡ m = omega arith in rw e refl

module _ {A B : Type 0} (f : Reader Stmts → Reader B) (view : A → B) (n left : ℕ) (old new : Cursor) (r : Result A ReadRefusal) (some : 0 < n) where
  pub gives_stmts : Gives view (f (stmts_at (n - 1) left)) old r new → Gives view (f (stmts_inside n left)) old r new
  gives_stmts g = gives_as view (f (stmts_inside n left)) (f (stmts_at (n - 1) left)) old new r (ap (λ (k : Reader Stmts). f k old.last old.ahead) (stmts_are n left some)) g

  pub gives_bound_stmts : (l : ℕ) → l ≡ less left → Gives view (f (stmts_at (n - 1) l)) old r new → Gives view (f (stmts_inside n (less left))) old r new
  gives_bound_stmts l e g = gives_as view (f (stmts_inside n (less left))) (f (stmts_at (n - 1) l)) old new r
      (ap (λ (k : Reader Stmts). f k old.last old.ahead) (stmts_are n (less left) some) ∙ ap (λ (l : ℕ). f (stmts_at (n - 1) l) old.last old.ahead) (sym e)) g

-- a level less, as the code counts it
pub gives_level : {A B : Type 0} (f : ℕ → Reader B) (view : A → B) (n : ℕ) (old new : Cursor) (r : Result A ReadRefusal) → Gives view (f (n - 1)) old r new → Gives view (f (less n)) old r new
gives_level f view n old new r g = gives_as view (f (less n)) (f (n - 1)) old new r (ap (λ (m : ℕ). f m old.last old.ahead) (less_is n)) g

-- what is left of what is left
pub then_left : {A : Type 0} {r q s : Reader A} {start here there : Cursor} → Left r start q here → Left q here s there → Left r start s there
then_left {start = start} {here = here} {there = there} l m = record { reads = l.reads ∙ m.reads; stays = stays_on start here there l.stays m.stays }

pub left_fails : {A : Type 0} {r q : Reader A} {start here : Cursor} (k : ReadRefusal) (new : Cursor) → Left r start q here → Failed q k here new → Failed r k start new
left_fails {A} k new l f = gives_left (λ (a : A). a) (Err k) new l f

module _ (n left : ℕ) (below : ℕ → Reader Stmts) where
  pub port_stmt : (r : Role) → (r ≡ EndWord) ⊎ ((r ≡ TurnWord) ⊎ (r ≡ FirstWord)) → stmt_by n left below r ≡ (port_at n left >>= put_member n left)
  port_stmt r (inl e) = rw e refl
  port_stmt r (inr (inl e)) = rw e refl
  port_stmt r (inr (inr e)) = rw e refl

  pub stmt_rest : (r : Role) → (r ≡ AName → ⊥) → (r ≡ EndWord → ⊥) → (r ≡ TurnWord → ⊥) → (r ≡ FirstWord → ⊥) → (r ≡ LetWord → ⊥) → (r ≡ IfWord → ⊥) → (r ≡ ForWord → ⊥) → stmt_by n left below r ≡ refuse
  stmt_rest AName f0 f1 f2 f3 f4 f5 f6 = absurd (f0 refl)
  stmt_rest EndWord f0 f1 f2 f3 f4 f5 f6 = absurd (f1 refl)
  stmt_rest TurnWord f0 f1 f2 f3 f4 f5 f6 = absurd (f2 refl)
  stmt_rest FirstWord f0 f1 f2 f3 f4 f5 f6 = absurd (f3 refl)
  stmt_rest LetWord f0 f1 f2 f3 f4 f5 f6 = absurd (f4 refl)
  stmt_rest IfWord f0 f1 f2 f3 f4 f5 f6 = absurd (f5 refl)
  stmt_rest ForWord f0 f1 f2 f3 f4 f5 f6 = absurd (f6 refl)
  stmt_rest _ f0 f1 f2 f3 f4 f5 f6 = refl

pub put_rest : (n left : ℕ) (v : Lexeme) (r : Role) → (r ≡ BecomesSign → ⊥) → (r ≡ DotSign → ⊥) → put_by n left v r ≡ refuse
put_rest n left v BecomesSign f0 f1 = absurd (f0 refl)
put_rest n left v DotSign f0 f1 = absurd (f1 refl)
put_rest n left v _ f0 f1 = refl

pub move_rest : (n left : ℕ) (r : Role) → (r ≡ NoneWord → ⊥) → (r ≡ ThroughWord → ⊥) → (r ≡ ContractWord → ⊥) → move_by n left r ≡ refuse
move_rest n left NoneWord f0 f1 f2 = absurd (f0 refl)
move_rest n left ThroughWord f0 f1 f2 = absurd (f1 refl)
move_rest n left ContractWord f0 f1 f2 = absurd (f2 refl)
move_rest n left _ f0 f1 f2 = refl
