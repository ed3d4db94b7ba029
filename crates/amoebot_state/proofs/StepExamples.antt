-- Verdicts, steps and runs at small values, computed: what is expected was written out by hand.
use Rattle.std.proofs.Common.{◌≡◌, ◌<◌, ℕ, zero, suc, length, [], ◌∷◌, refl, arith, None}
use Rattle.std.specs.Prelude.{is_some, IsTrue}
use Rattle.std.proofs.lemmas.Int.{ints}
use Rattle.tri_lattice.specs.Extent.{IsArea, is_in}
use Rattle.amoebot_state.specs.declared.bot.Bot.{Bot}
use Rattle.amoebot_state.specs.declared.bot.Chir.TheVariants.{Plus}
use Rattle.amoebot_state.specs.declared.bot.End.TheVariants.{Head, Tail}
use Rattle.amoebot_state.specs.declared.verdict.Change.{Change}
use Rattle.amoebot_state.specs.declared.verdict.Entry.{Entry}
use Rattle.amoebot_state.specs.declared.verdict.Moved.TheVariants as moved
use Rattle.amoebot_state.specs.declared.verdict.Verdict.{Verdict}
use Rattle.amoebot_state.specs.declared.verdict.Verdict.TheVariants as verdict
use Rattle.amoebot_state.specs.Pairs.{plain_patch}
use Rattle.amoebot_state.specs.Ports.{port}
use Rattle.amoebot_state.specs.Configs.{Config, IsValid, bot_at}
use Rattle.amoebot_state.specs.Refusals.{IsBotInRange, bot_fault}
use Rattle.amoebot_state.specs.Zones.{Shown, shown}
use Rattle.amoebot_state.specs.Patches.{IsPatched, diff}
use Rattle.amoebot_state.specs.Examples.{eight_by_eight}
use Rattle.amoebot_state.specs.Steps.{Step, Run, change_of}
use Rattle.amoebot_state.proofs.Faults.{walled_frame_is_valid, valid_one, valid_two}
use Rattle.amoebot_state.proofs.Occupants.{in_range_of}
use Rattle.amoebot_state.proofs.OldValues.{diff_leads}
use Rattle.amoebot_state.proofs.ExampleLemmas.{at, held, free, shows, with_body, entered, handed_over, body_changed, first, expanded, contracted, against, world, alone, alone_out, going_out, pair, marked, stretched, train, pulled, turned, turned_out}

-- worlds of one amoebot and of two are valid, where none has a fault
eight_is_area : IsArea eight_by_eight
eight_is_area = record {
  x_low = omega (arith, ints);
  x_high = omega (arith, ints);
  y_low = omega (arith, ints);
  y_high = omega (arith, ints);
  w_low = omega arith;
  w_high = omega arith;
  h_low = omega arith;
  h_high = omega arith;
}

pub in_range : (b : Bot) → IsTrue (is_in eight_by_eight b.head) → IsTrue (is_in eight_by_eight b.tail) → b.rot < 6 → length b.mem ≡ 8 → IsBotInRange b
in_range = in_range_of eight_by_eight eight_is_area

open_valid : IsValid (world [])
open_valid = walled_frame_is_valid eight_by_eight [] (first 1) eight_is_area refl

one_valid : (b : Bot) → IsBotInRange b → bot_fault (world []) b ≡ None → IsValid (world (b ∷ []))
one_valid = valid_one (world []) open_valid

pub two_valid : (a b : Bot) → IsBotInRange a → IsBotInRange b → bot_fault (world []) a ≡ None → bot_fault (world (a ∷ [])) b ≡ None → IsValid (world (a ∷ b ∷ []))
two_valid = valid_two (world []) open_valid

-- the difference of two leads from the one to the other
one_leads : (a b : Bot) → IsValid (world (a ∷ [])) → IsValid (world (b ∷ [])) → IsPatched (world (a ∷ [])) (plain_patch (diff (world (a ∷ [])) (world (b ∷ [])))) (world (b ∷ []))
one_leads a b old new = (diff_leads (world (a ∷ [])) (world (b ∷ [])) old new (record { rest = refl; size = refl; ids = same })).0
  where
    same : (i : ℕ) → is_some (bot_at (world (b ∷ [])) i) ≡ is_some (bot_at (world (a ∷ [])) i)
    same zero = refl
    same (suc i) = refl

two_lead : (a b c d : Bot) → IsValid (world (a ∷ b ∷ [])) → IsValid (world (c ∷ d ∷ [])) → IsPatched (world (a ∷ b ∷ [])) (plain_patch (diff (world (a ∷ b ∷ [])) (world (c ∷ d ∷ [])))) (world (c ∷ d ∷ []))
two_lead a b c d old new = (diff_leads (world (a ∷ b ∷ [])) (world (c ∷ d ∷ [])) old new (record { rest = refl; size = refl; ids = same })).0
  where
    same : (i : ℕ) → is_some (bot_at (world (c ∷ d ∷ [])) i) ≡ is_some (bot_at (world (a ∷ b ∷ [])) i)
    same zero = refl
    same (suc zero) = refl
    same (suc (suc i)) = refl

-- one amoebot, on (2, 3), that expands to (3, 3)
abbrev pub goes_out : Change
goes_out = record { action = 0; moved = moved.Expand (port Head 0); patch = going_out }

abbrev pub out_entry : Entry
out_entry = record { caller = 0; turn = 0; bot = 0; action = 0; moved = moved.Expand (port Head 0); patch = going_out }

alone_valid : IsValid alone
alone_valid = one_valid (contracted (at 2 3)) (in_range (contracted (at 2 3)) refl refl (omega arith) refl) refl

alone_out_valid : IsValid alone_out
alone_out_valid = one_valid stretched (in_range stretched refl refl (omega arith) refl) refl

-- whatever decides so makes this run
pub alone_runs : (f : Shown → Verdict) → f (shown alone 0) ≡ verdict.Change goes_out → Run f alone (out_entry ∷ []) alone_out
alone_runs f one = (alone_out, record { there = refl; decided = one; patched = one_leads (contracted (at 2 3)) stretched alone_valid alone_out_valid }, refl)

-- an amoebot that goes round against the global directions: its local direction 1 is the global direction 4
abbrev pub turned_entry : Entry
turned_entry = record { caller = 0; turn = 0; bot = 0; action = 0; moved = moved.Expand (port Head 1); patch = entered 2 2 0 ∷ body_changed 0 (against 5 (at 2 3)) turned_out ∷ [] }

turned_valid : IsValid turned
turned_valid = one_valid (against 5 (at 2 3)) (in_range (against 5 (at 2 3)) refl refl (omega arith) refl) refl

turned_out_valid : IsValid (world (turned_out ∷ []))
turned_out_valid = one_valid turned_out (in_range turned_out refl refl (omega arith) refl) refl

pub turned_steps : (f : Shown → Verdict) → f (shown turned 0) ≡ verdict.Change (change_of turned_entry) → Step f turned turned_entry (world (turned_out ∷ []))
turned_steps f one = record { there = refl; decided = one; patched = one_leads (against 5 (at 2 3)) turned_out turned_valid turned_out_valid }

-- two neighbours, each of which sets its variable: the second is shown what the first one left
abbrev marking : ℕ → Bot → Bot → Entry
marking i was new = record { caller = i; turn = i; bot = i; action = 0; moved = moved.None; patch = body_changed i was new ∷ [] }

abbrev next_marked : Bot
next_marked = record { head = at 3 3; tail = at 3 3; rot = 0; chir = Plus; mem = first 1 }

abbrev one_marked : Config
one_marked = world (marked ∷ contracted (at 3 3) ∷ [])

abbrev both_marked : Config
both_marked = world (marked ∷ next_marked ∷ [])

shown_one_marked : shown one_marked 1 ≡ shows 1 (with_body 1 (contracted (at 3 3)) ∷ held 3 3 1 ∷ free 4 3 ∷ free 3 4 ∷ free 2 4 ∷ held 2 3 0 ∷ free 3 2 ∷ free 4 2 ∷ with_body 0 marked ∷ [])
shown_one_marked = refl

next_marking_changes : diff one_marked both_marked ≡ body_changed 1 (contracted (at 3 3)) next_marked ∷ []
next_marking_changes = refl

pair_valid : IsValid pair
pair_valid = two_valid (contracted (at 2 3)) (contracted (at 3 3)) (in_range (contracted (at 2 3)) refl refl (omega arith) refl) (in_range (contracted (at 3 3)) refl refl (omega arith) refl) refl refl

one_marked_valid : IsValid one_marked
one_marked_valid = two_valid marked (contracted (at 3 3)) (in_range marked refl refl (omega arith) refl) (in_range (contracted (at 3 3)) refl refl (omega arith) refl) refl refl

both_marked_valid : IsValid both_marked
both_marked_valid = two_valid marked next_marked (in_range marked refl refl (omega arith) refl) (in_range next_marked refl refl (omega arith) refl) refl refl

-- whatever decides so makes this run
marks_run : (f : Shown → Verdict) → f (shown pair 0) ≡ verdict.Change (change_of (marking 0 (contracted (at 2 3)) marked)) → f (shown one_marked 1) ≡ verdict.Change (change_of (marking 1 (contracted (at 3 3)) next_marked)) → Run f pair (marking 0 (contracted (at 2 3)) marked ∷ marking 1 (contracted (at 3 3)) next_marked ∷ []) both_marked
marks_run f one two = (
  one_marked,
  record { there = refl; decided = one; patched = two_lead (contracted (at 2 3)) (contracted (at 3 3)) marked (contracted (at 3 3)) pair_valid one_marked_valid },
  (both_marked, record { there = refl; decided = two; patched = two_lead marked (contracted (at 3 3)) marked next_marked one_marked_valid both_marked_valid }, refl),
)

-- an expanded amoebot pulls its neighbour. The neighbour, whose zone had nine cells and has twelve now, sets its variable
abbrev pulling : Entry
pulling = record { caller = 0; turn = 0; bot = 0; action = 0; moved = moved.Pull (port Tail 3); patch = handed_over 2 3 0 1 ∷ body_changed 0 stretched (contracted (at 3 3)) ∷ body_changed 1 (contracted (at 1 3)) (expanded (at 2 3) (at 1 3)) ∷ [] }

abbrev noted : Bot
noted = record { head = at 2 3; tail = at 1 3; rot = 0; chir = Plus; mem = first 1 }

abbrev noting : Entry
noting = record { caller = 1; turn = 1; bot = 1; action = 1; moved = moved.None; patch = body_changed 1 (expanded (at 2 3) (at 1 3)) noted ∷ [] }

abbrev pulled_noted : Config
pulled_noted = world (contracted (at 3 3) ∷ noted ∷ [])

shown_pulled_1 : shown pulled 1 ≡ shows 1 (with_body 1 (expanded (at 2 3) (at 1 3)) ∷ held 2 3 1 ∷ held 1 3 1 ∷ held 3 3 0 ∷ free 2 4 ∷ free 1 4 ∷ free 2 2 ∷ free 3 2 ∷ free 0 4 ∷ free 0 3 ∷ free 1 2 ∷ with_body 0 (contracted (at 3 3)) ∷ [])
shown_pulled_1 = refl

noting_changes : diff pulled pulled_noted ≡ body_changed 1 (expanded (at 2 3) (at 1 3)) noted ∷ []
noting_changes = refl

train_valid : IsValid train
train_valid = two_valid stretched (contracted (at 1 3)) (in_range stretched refl refl (omega arith) refl) (in_range (contracted (at 1 3)) refl refl (omega arith) refl) refl refl

pulled_valid : IsValid pulled
pulled_valid = two_valid (contracted (at 3 3)) (expanded (at 2 3) (at 1 3)) (in_range (contracted (at 3 3)) refl refl (omega arith) refl) (in_range (expanded (at 2 3) (at 1 3)) refl refl (omega arith) refl) refl refl

pulled_noted_valid : IsValid pulled_noted
pulled_noted_valid = two_valid (contracted (at 3 3)) noted (in_range (contracted (at 3 3)) refl refl (omega arith) refl) (in_range noted refl refl (omega arith) refl) refl refl

train_runs : (f : Shown → Verdict) → f (shown train 0) ≡ verdict.Change (change_of pulling) → f (shown pulled 1) ≡ verdict.Change (change_of noting) → Run f train (pulling ∷ noting ∷ []) pulled_noted
train_runs f one two = (
  pulled,
  record { there = refl; decided = one; patched = two_lead stretched (contracted (at 1 3)) (contracted (at 3 3)) (expanded (at 2 3) (at 1 3)) train_valid pulled_valid },
  (pulled_noted, record { there = refl; decided = two; patched = two_lead (contracted (at 3 3)) (expanded (at 2 3) (at 1 3)) (contracted (at 3 3)) noted pulled_valid pulled_noted_valid }, refl),
)
