-- What stands behind a sign or a word, if it comes.
use Rattle.std.proofs.Common.{◌≡◌, ◌<◌, ◌≢◌, ℕ, Bool, true, false, Option, Some, None, Result, Ok, Err, refl, arith}
use Rattle.text_tokens.specs.declared.refusal.Refusal.{Refusal}
use Rattle.text_tokens.specs.declared.refusal.ReadRefusal.{ReadRefusal}
use Rattle.text_tokens.specs.declared.refusal.ReadRefusal.TheVariants.{Refused}
use Rattle.text_tokens.specs.declared.refusal.RefusalKind.TheVariants.{TooMany}
use Rattle.text_tokens.specs.Text.{Lexeme}
use Rattle.text_tokens.specs.Cursor.{Cursor, next_passes, refusal_at}
use Rattle.text_tokens.specs.Reading.{Reader, ◌>>=◌, pure, one, no_limit, limited, optional, behind_sign, full_at}
use Rattle.text_tokens.specs.Steps.{Gives, another, IsRefusal}
use Rattle.text_tokens.proofs.StepsLemmas.{Reached, Failed, stays, gives_as, on, fails, another_none, another_some, another_fails, with_room, without_room, one_too_many as too_many, is_first, is_second}
use Rattle.action_tree.specs.declared.role.Role.{Role}
use Rattle.action_tree.specs.Roles.{role}
use Rattle.action_tree.specs.ExpressionReaders.{level_limit}
use Rattle.action_parser.proofs.Fullness.{full_for}

some_room : (room : ℕ) → room ≢ 0 → 0 < room
some_room room left = omega (arith, left)

-- one more element behind a sign, where so many more may come
module _ {A : Type 0} (sign : Lexeme → Bool) (begins : Role → Bool) (n room : ℕ) (p : Lexeme → Reader A) (now : Cursor) where
  abbrev element : Lexeme → ℕ → Reader A
  element t room = limited (λ t. begins (role t)) (level_limit n) room (p t)

  abbrev one_more : Reader (Option A)
  one_more = another sign (behind_sign sign element room)

  pub none_comes : next_passes sign now.ahead ≡ false → Reached one_more now None now
  none_comes misses = another_none sign (behind_sign sign element room) now misses

  module _ (comes : next_passes sign now.ahead ≡ true) where
    pub sign_fails : (e : ReadRefusal) {new : Cursor} → Failed (one sign) e now new → Failed one_more e now new
    sign_fails e {new = new} f = another_fails sign (behind_sign sign element room) now comes e new (fails (one sign) (λ t. element t room) e now new f)

    module _ {t : Lexeme} {mid : Cursor} (read : Reached (one sign) now t mid) where
      pub one_too_many : (r : Refusal) → room ≡ 0 → IsRefusal (full_at (λ t. begins (role t)) (level_limit n)) mid.last mid.ahead r → Failed one_more (Refused r) now mid
      one_too_many r empty full = another_fails sign (behind_sign sign element room) now comes (Refused r) mid
          (on (λ (a : A). a) (one sign) (λ t. element t room) now mid mid t (Err (Refused r)) read (without_room (λ t. begins (role t)) (level_limit n) room (p t) mid r empty (full_for begins n mid r full)))

      module _ (left : room ≢ 0) where
        pub element_fails : (e : ReadRefusal) {new : Cursor} → Failed (p t) e mid new → Failed one_more e now new
        element_fails e {new = new} f = another_fails sign (behind_sign sign element room) now comes e new
            (on (λ (a : A). a) (one sign) (λ t. element t room) now mid new t (Err e) read (with_room (λ t. begins (role t)) (level_limit n) room (p t) (λ (a : A). a) mid new (Err e) (some_room room left) f))

        pub one_read : {a : A} {new : Cursor} → Reached (p t) mid a new → Reached one_more now (Some a) new
        one_read {a = a} {new = new} r = another_some sign (behind_sign sign element room) now comes a new
            (on (λ (a : A). a) (one sign) (λ t. element t room) now mid new t (Ok a) read (with_room (λ t. begins (role t)) (level_limit n) room (p t) (λ (a : A). a) mid new (Ok a) (some_room room left) r))

-- one more part that begins with such a token, where so many more may come
module _ {A : Type 0} (starts : Lexeme → Bool) (room : ℕ) (p : Reader A) (now : Cursor) where
  abbrev room_for : Reader A
  room_for = limited starts no_limit room p

  pub no_part : next_passes starts now.ahead ≡ false → Reached (another starts room_for) now None now
  no_part misses = another_none starts room_for now misses

  module _ (comes : next_passes starts now.ahead ≡ true) where
    pub part_too_many : (r : Refusal) → room ≡ 0 → r ≡ refusal_at now.last TooMany now.ahead → Failed (another starts room_for) (Refused r) now now
    part_too_many r empty is = rw is (another_fails starts room_for now comes (Refused (refusal_at now.last TooMany now.ahead)) now (too_many starts no_limit room p now empty comes (λ t. refl)))

    module _ (left : room ≢ 0) where
      pub part_refused : (e : ReadRefusal) {new : Cursor} → Failed p e now new → Failed (another starts room_for) e now new
      part_refused e {new = new} f = another_fails starts room_for now comes e new (with_room starts no_limit room p (λ (a : A). a) now new (Err e) (some_room room left) f)

      pub part_read : {a : A} {new : Cursor} → Reached p now a new → Reached (another starts room_for) now (Some a) new
      part_read {a = a} {new = new} r = another_some starts room_for now comes a new (with_room starts no_limit room p (λ (a : A). a) now new (Ok a) (some_room room left) r)

-- a part behind a word, which stands for this where it is left out
module _ {A : Type 0} (word : Lexeme → Bool) (none : A) (p : Reader A) (now : Cursor) where
  abbrev part : Reader A
  part = optional word none (one word >>= λ t. p)

  pub left_out : next_passes word now.ahead ≡ false → Reached part now none now
  left_out misses = (is_second word (one word >>= λ t. p) (pure none) now.last now.ahead misses, stays now)

  module _ (comes : next_passes word now.ahead ≡ true) where
    as_there : part now.last now.ahead ≡ (one word >>= λ t. p) now.last now.ahead
    as_there = is_first word (one word >>= λ t. p) (pure none) now.last now.ahead comes

    pub word_fails : (e : ReadRefusal) {new : Cursor} → Failed (one word) e now new → Failed part e now new
    word_fails e {new = new} f = gives_as (λ (a : A). a) part (one word >>= λ t. p) now new (Err e) as_there (fails (one word) (λ t. p) e now new f)

    pub behind_word : {B : Type 0} (view : B → A) {t : Lexeme} {mid : Cursor} (new : Cursor) (r : Result B ReadRefusal) → Reached (one word) now t mid → Gives view p mid r new → Gives view part now r new
    behind_word view {t = t} {mid = mid} new r read g = gives_as view part (one word >>= λ t. p) now new r as_there (on view (one word) (λ t. p) now mid new t r read g)
