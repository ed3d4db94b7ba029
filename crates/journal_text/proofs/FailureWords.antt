-- The words of failures: each is one token, and names a failure in the versions that have it.
use Rattle.std.proofs.Common.{◌≡◌, ◌≢◌, ℕ, Bool, true, false, refl, arith}
use Rattle.std.specs.Prelude.{take, if◌then◌else◌}
use Rattle.std.specs.List.{list_any}
use Rattle.std.specs.Str.{bytes_eq}
use Rattle.text_tokens.specs.declared.token.TokenKind.TheVariants.{Word}
use Rattle.text_tokens.proofs.PrintedTokens.{kind_of, IsOneToken, word_is_token}
use Rattle.amoebot_state.specs.declared.verdict.Failure.{Failure}
use Rattle.amoebot_state.specs.declared.verdict.Failure.TheVariants as failure
use Rattle.shape_text.specs.Parts.{may_have_walls}
use Rattle.journal_text.specs.Texts.{failure_word}
use Rattle.journal_text.specs.Turns.{failure_words, names_failure}
use Rattle.journal_text.specs.Rereading.{IsWritableFailure}

pub failure_token : (f : Failure) → IsOneToken (failure_word f)
failure_token failure.NoPort = word_is_token _ _ refl refl (omega arith)
failure_token failure.NoNeighbour = word_is_token _ _ refl refl (omega arith)
failure_token failure.OutOfRange = word_is_token _ _ refl refl (omega arith)
failure_token failure.Occupied = word_is_token _ _ refl refl (omega arith)
failure_token failure.NotContracted = word_is_token _ _ refl refl (omega arith)
failure_token failure.NotExpanded = word_is_token _ _ refl refl (omega arith)
failure_token failure.PeerNotExpanded = word_is_token _ _ refl refl (omega arith)
failure_token failure.PeerNotContracted = word_is_token _ _ refl refl (omega arith)
failure_token failure.Edge = word_is_token _ _ refl refl (omega arith)
failure_token failure.WouldSplit = word_is_token _ _ refl refl (omega arith)
failure_token failure.NoChoice = word_is_token _ _ refl refl (omega arith)
failure_token failure.Blocked = word_is_token _ _ refl refl (omega arith)

pub failure_kind : (f : Failure) → kind_of (failure_word f) ≡ Word
failure_kind failure.NoPort = refl
failure_kind failure.NoNeighbour = refl
failure_kind failure.OutOfRange = refl
failure_kind failure.Occupied = refl
failure_kind failure.NotContracted = refl
failure_kind failure.NotExpanded = refl
failure_kind failure.PeerNotExpanded = refl
failure_kind failure.PeerNotContracted = refl
failure_kind failure.Edge = refl
failure_kind failure.WouldSplit = refl
failure_kind failure.NoChoice = refl
failure_kind failure.Blocked = refl

-- the word is among those that a text with or without walls may have
abbrev is_named : Bool → Failure → Bool
is_named walls f = list_any (λ word. bytes_eq word (failure_word f)) (take (if walls then 12 else 11) failure_words)

named_with_walls : (f : Failure) → is_named true f ≡ true
named_with_walls failure.NoPort = refl
named_with_walls failure.NoNeighbour = refl
named_with_walls failure.OutOfRange = refl
named_with_walls failure.Occupied = refl
named_with_walls failure.NotContracted = refl
named_with_walls failure.NotExpanded = refl
named_with_walls failure.PeerNotExpanded = refl
named_with_walls failure.PeerNotContracted = refl
named_with_walls failure.Edge = refl
named_with_walls failure.WouldSplit = refl
named_with_walls failure.NoChoice = refl
named_with_walls failure.Blocked = refl

named_without : (f : Failure) → f ≢ failure.Blocked → is_named false f ≡ true
named_without failure.NoPort other = refl
named_without failure.NoNeighbour other = refl
named_without failure.OutOfRange other = refl
named_without failure.Occupied other = refl
named_without failure.NotContracted other = refl
named_without failure.NotExpanded other = refl
named_without failure.PeerNotExpanded other = refl
named_without failure.PeerNotContracted other = refl
named_without failure.Edge other = refl
named_without failure.WouldSplit other = refl
named_without failure.NoChoice other = refl
named_without failure.Blocked other = absurd (other refl)

named_by : (walls : Bool) (f : Failure) → (walls ≡ false → f ≢ failure.Blocked) → is_named walls f ≡ true
named_by true f others = named_with_walls f
named_by false f others = named_without f (others refl)

pub failure_named : (version : ℕ) (f : Failure) → IsWritableFailure version f → names_failure version (failure_word f) ≡ true
unfolding names_failure
failure_named version f writable = named_by (may_have_walls version) f writable
