-- A list that a loop read, and what the reader makes of it.
use Rattle.std.proofs.Common.{◌≡◌, ◌≤◌, ◌-◌, arith, ℕ, Bool, List, [], ◌∷◌, ◌++◌, length, map, Some, None, Ok, Err, refl, sym, ap, subst, ◌∙◌}
use Rattle.std.proofs.lemmas.List.{map_push}
use Rattle.text_tokens.specs.declared.refusal.Refusal.{Refusal}
use Rattle.text_tokens.specs.declared.refusal.ReadRefusal.{ReadRefusal}
use Rattle.text_tokens.specs.Text.{Lexeme}
use Rattle.text_tokens.specs.Cursor.{Cursor}
use Rattle.text_tokens.specs.Reading.{Answer, Reader, answer_and_then, pure, repeated, less}
use Rattle.text_tokens.specs.Grammar.{Lang}
use Rattle.text_tokens.specs.Lawful.{AreElements}
use Rattle.text_tokens.specs.Steps.{another}
use Rattle.text_tokens.proofs.StepsLemmas.{Reached, Failed, gives_as, fails, on_made}
use Rattle.text_tokens.proofs.LoopLemmas.{StillReads, prepend, one_before, loop_chains, loop_goes_on, loop_is_over, loop_fails, less_is}
use Rattle.text_tokens.proofs.Rows.{Left}
use Rattle.action_tree.specs.Trees.{Guard, Part, Sum, term_then, conjunction, disjunction, guards, terms, Stmt, Stmts, stmt_then, stmts}
use Rattle.action_tree.specs.Productions.{all_of, any_of, names_left_after}
use Rattle.action_tree.specs.Limits.{most_further}
use Rattle.action_tree.specs.ExpressionReaders.{a_unit, a_conj, an_expr, a_sum, inside, a_minus, a_term, part}
use Rattle.action_tree.specs.StatementReaders.{a_stmt, all_stmts, stmts_inside, stmts_at}
use Rattle.action_parser.specs.Readings.{made}
use Rattle.action_parser.proofs.Lists.{with_first, more_units, more_conjs, more_parts, all_units, all_conjs, all_parts, more_stmts, all_listed, all_in, any_in}

-- a loop over elements, from what it has found
module _ {A S : Type 0} {E : S → Lang A} {element : S → Reader A} {starts between stop : Lexeme → Bool} (e : AreElements E element starts between stop) (step : S → A → S) (s : S) {all : Reader (List A)} {start : Cursor} {found : List A} {here : Cursor} (still : StillReads all start found (repeated starts element step s) here) where
  pub next_found : {a : A} {mid : Cursor} → Reached (another starts (element s)) here (Some a) mid → (more : List A) → more ≡ found ++ a ∷ [] → StillReads all start more (repeated starts element step (step s a)) mid
  next_found {a = a} {mid = mid} next more same = loop_goes_on E element step starts between stop e all start found s here still a mid next more same

  pub all_found : {new : Cursor} → Reached (another starts (element s)) here None new → Reached all start found new
  all_found {new = new} over = loop_is_over E element step starts between stop e all start found s here still new over

  pub next_fails : (k : ReadRefusal) {new : Cursor} → Failed (another starts (element s)) k here new → Failed all k start new
  next_fails k {new = new} f = loop_fails E element step starts between stop e all start found s here still k new f

-- where the room is counted
pub counted_found : {A : Type 0} {E : ℕ → Lang A} {element : ℕ → Reader A} {starts between stop : Lexeme → Bool} (e : AreElements E element starts between stop) (room : ℕ) {all : Reader (List A)} {start : Cursor} {found : List A} {here : Cursor} → StillReads all start found (repeated starts element (λ room a. less room) room) here
    → {a : A} {mid : Cursor} → Reached (another starts (element room)) here (Some a) mid → (more : List A) → more ≡ found ++ a ∷ [] → StillReads all start more (repeated starts element (λ room a. less room) (room - 1)) mid
counted_found {element = element} {starts = starts} e room {all = all} {start = start} still {mid = mid} next more same = subst (λ (n : ℕ). StillReads all start more (repeated starts element (λ room a. less room) n) mid) (less_is room) (next_found e (λ room a. less room) room still next more same)

-- a whole, which is made of the list
module _ {A B : Type 0} (whole : Reader B) (all : Reader (List A)) (join : List A → B) {old : Cursor} (listed : whole old.last old.ahead ≡ made all join old.last old.ahead) where
  whole_read : {found : List A} {b : B} {new : Cursor} → Reached all old found new → join found ≡ b → Reached whole old b new
  whole_read {found = found} {new = new} r is = let m = on_made all join old new found r in (listed ∙ m.0 ∙ ap (λ (b : B). Ok (b, new.ahead)) is, m.1)

  whole_fails : (e : ReadRefusal) {new : Cursor} → Failed all e old new → Failed whole e old new
  whole_fails e {new = new} f = gives_as (λ (b : B). b) whole (made all join) old new (Err e) listed (fails all (λ found. pure (join found)) e old new f)

-- what stands in a list behind two pushes
pub two_pushed : {A : Type 0} {none one two : List A} (a b : A) → none ≡ [] → one ≡ none ++ a ∷ [] → two ≡ one ++ b ∷ [] → two ≡ a ∷ b ∷ []
two_pushed a b empty first second = rw (second, first, empty) refl

-- what stands in a list behind a push, as it is seen
pub view_pushed : {F A : Type 0} (view : F → A) (old : List F) (a : F) {new : List F} → new ≡ old ++ a ∷ [] → map view new ≡ map view old ++ view a ∷ []
view_pushed {F} view old a pushed = ap (λ (all : List F). map view all) pushed ∙ map_push view old a

-- behind the first element the loop begins
pub begins_with : {A : Type 0} (r : Reader (List A)) (q : Reader (List A)) (start here : Cursor) (a : A) (found : List A) → found ≡ a ∷ [] → Left r start (with_first a q) here → StillReads r start found q here
begins_with r q start here a found e l = record { reads = l.reads ∙ one_before a (q here.last here.ahead) ∙ ap (λ (fs : List _). prepend fs (q here.last here.ahead)) (sym e); stays = l.stays }

-- what is made of a first element and the others, made of the list
relisted : {F A B : Type 0} (item : F → A) (whole : F → List A → B) (all : List A → B) (q : F → Refusal → List Lexeme → Answer (List A)) (last : Refusal) (r : Answer F) → ((a : F) (rest : List A) → all (item a ∷ rest) ≡ whole a rest)
    → answer_and_then r (λ a us. answer_and_then (q a last us) (λ rest vs. Ok (whole a rest, vs))) ≡ answer_and_then (answer_and_then r (λ a us. answer_and_then (q a last us) (λ rest vs. Ok (item a ∷ rest, vs)))) (λ gs us. Ok (all gs, us))
relisted item whole all q last (Ok r) is = by (q r.0 last r.1)
  where
    by : (x : Answer (List _)) → answer_and_then x (λ rest vs. Ok (whole r.0 rest, vs)) ≡ answer_and_then (answer_and_then x (λ rest vs. Ok (item r.0 ∷ rest, vs))) (λ gs us. Ok (all gs, us))
    by (Ok y) = ap (λ (b : _). Ok (b, y.1)) (sym (is r.0 y.0))
    by (Err e) = refl
relisted item whole all q last (Err e) is = refl

module _ (n left : ℕ) (last : Refusal) (ts : List Lexeme) where
  conj_listed : a_conj n left (inside n) last ts ≡ made (all_units n left) all_in last ts
  unfolding a_conj
  conj_listed = relisted (λ (g : Guard). g) (λ g gs. all_of g (guards gs)) all_in (λ g. more_units n left most_further) last (a_unit n left (inside n) last ts) (λ a rest. refl)

  expr_listed : an_expr n left (inside n) last ts ≡ made (all_conjs n left) any_in last ts
  unfolding an_expr
  expr_listed = relisted (λ (g : Guard). g) (λ g gs. any_of g (guards gs)) any_in (λ g. more_conjs n left most_further) last (a_conj n left (inside n) last ts) (λ a rest. refl)

  sum_by : (r : Answer Bool) → answer_and_then r (λ minus us. answer_and_then (a_term n left (inside n) last us) (λ t vs. answer_and_then (more_parts n left most_further last vs) (λ ps ws. Ok (term_then minus t (terms ps), ws))))
      ≡ answer_and_then (answer_and_then r (λ minus us. answer_and_then (a_term n left (inside n) last us) (λ t vs. answer_and_then (more_parts n left most_further last vs) (λ ps ws. Ok (part minus t ∷ ps, ws))))) (λ ps us. Ok (terms ps, us))
  sum_by (Ok r) = relisted (part r.0) (λ t ps. term_then r.0 t (terms ps)) terms (λ t. more_parts n left most_further) last (a_term n left (inside n) last r.1) (λ t ps. refl)
  sum_by (Err e) = refl

  sum_listed : a_sum n left (inside n) last ts ≡ made (all_parts n left) terms last ts
  unfolding a_sum
  sum_listed = sum_by (a_minus last ts)

module _ (n left : ℕ) (last : Refusal) (ts : List Lexeme) where
  stmts_listed : all_stmts n left (stmts_inside n) last ts ≡ made (all_listed n left) stmts last ts
  unfolding all_stmts
  stmts_listed = relisted (λ (s : Stmt). s) (λ s ss. stmt_then s (stmts ss)) stmts (λ s. more_stmts n (record { room = most_further; left = names_left_after left s })) last (a_stmt n left (stmts_inside n) last ts) (λ s ss. refl)

module _ (n left : ℕ) {old here : Cursor} {g : Guard} where
  pub units_begun : Reached (a_unit n left (inside n)) old g here → StillReads (all_units n left) old (g ∷ []) (more_units n left most_further) here
  units_begun r = loop_chains (a_unit n left (inside n)) (more_units n left most_further) old here g (g ∷ []) refl r

  pub conjs_begun : Reached (a_conj n left (inside n)) old g here → StillReads (all_conjs n left) old (g ∷ []) (more_conjs n left most_further) here
  conjs_begun r = loop_chains (a_conj n left (inside n)) (more_conjs n left most_further) old here g (g ∷ []) refl r

module _ (n left : ℕ) {old : Cursor} where
  pub conj_read : {all : List Guard} {whole : Guard} {new : Cursor} → Reached (all_units n left) old all new → all_in all ≡ whole → Reached (a_conj n left (inside n)) old whole new
  conj_read r is = whole_read (a_conj n left (inside n)) (all_units n left) all_in (conj_listed n left old.last old.ahead) r is

  pub conj_fails : (e : ReadRefusal) {new : Cursor} → Failed (all_units n left) e old new → Failed (a_conj n left (inside n)) e old new
  conj_fails e f = whole_fails (a_conj n left (inside n)) (all_units n left) all_in (conj_listed n left old.last old.ahead) e f

  pub expr_read : {all : List Guard} {whole : Guard} {new : Cursor} → Reached (all_conjs n left) old all new → any_in all ≡ whole → Reached (an_expr n left (inside n)) old whole new
  expr_read r is = whole_read (an_expr n left (inside n)) (all_conjs n left) any_in (expr_listed n left old.last old.ahead) r is

  pub expr_fails : (e : ReadRefusal) {new : Cursor} → Failed (all_conjs n left) e old new → Failed (an_expr n left (inside n)) e old new
  expr_fails e f = whole_fails (an_expr n left (inside n)) (all_conjs n left) any_in (expr_listed n left old.last old.ahead) e f

  pub sum_read : {all : List Part} {whole : Sum} {new : Cursor} → Reached (all_parts n left) old all new → terms all ≡ whole → Reached (a_sum n left (inside n)) old whole new
  sum_read r is = whole_read (a_sum n left (inside n)) (all_parts n left) terms (sum_listed n left old.last old.ahead) r is

  pub sum_fails : (e : ReadRefusal) {new : Cursor} → Failed (all_parts n left) e old new → Failed (a_sum n left (inside n)) e old new
  sum_fails e f = whole_fails (a_sum n left (inside n)) (all_parts n left) terms (sum_listed n left old.last old.ahead) e f

  pub stmts_read : {all : List Stmt} {whole : Stmts} {new : Cursor} → Reached (all_listed n left) old all new → stmts all ≡ whole → Reached (stmts_at n left) old whole new
  stmts_read r is = whole_read (stmts_at n left) (all_listed n left) stmts (stmts_listed n left old.last old.ahead) r is

  pub stmts_fails : (e : ReadRefusal) {new : Cursor} → Failed (all_listed n left) e old new → Failed (stmts_at n left) e old new
  stmts_fails e f = whole_fails (stmts_at n left) (all_listed n left) stmts (stmts_listed n left old.last old.ahead) e f

-- two elements or more make a node
pub all_in_two : (gs : List Guard) → 2 ≤ length gs → all_in gs ≡ conjunction (guards gs)
all_in_two [] le = absurd (omega arith)
all_in_two (g ∷ []) le = absurd (omega arith)
all_in_two (g ∷ h ∷ gs) le = refl

pub any_in_two : (gs : List Guard) → 2 ≤ length gs → any_in gs ≡ disjunction (guards gs)
any_in_two [] le = absurd (omega arith)
any_in_two (g ∷ []) le = absurd (omega arith)
any_in_two (g ∷ h ∷ gs) le = refl
