-- The worlds of a run from a document's shape.
use Rattle.std.proofs.Common.{◌≡◌, ℕ, zero, suc, ◌<◌, ◌≤◌, false, List, [], ◌∷◌, length, map, get_or, Some, refl, sym, ap, subst, ◌∙◌, arith}
use Rattle.std.specs.Prelude.{IsSome, slice_index}
use Rattle.std.specs.List.{All}
use Rattle.std.proofs.lemmas.List.{length-map}
use Rattle.std.proofs.lemmas.List.Elements.{All-nil, All-cons, All-head, All-tail, All-map}
use Rattle.amoebot_state.specs.declared.bot.Bot.{Bot}
use Rattle.amoebot_state.specs.declared.verdict.Entry.{Entry}
use Rattle.amoebot_state.specs.declared.verdict.Verdict.{Verdict}
use Rattle.amoebot_state.specs.Configs.{Config, bot_at}
use Rattle.amoebot_state.specs.Zones.{Shown}
use Rattle.amoebot_state.specs.Steps.{Step, Run}
use Rattle.shape_text.specs.Parts.{may_have_walls}
use Rattle.shape_text.specs.PartLimits.{HasLimits}
use Rattle.shape_text.specs.Rereading as shape
use Rattle.action_tree.specs.Trees.{Var, Program}
use Rattle.amoebot_state.specs.Limits.{most_value, most_bots, most_vars}
use Rattle.action_check.specs.Faults.{vars_faults, actions_faults, faults}
use Rattle.action_tree.specs.Scopes.{at_start}
use Rattle.action_check.specs.Maxes.{first_or_zero, maxes_of}
use Rattle.claim_core.proofs.Frames.{IsFramed, framed_step}
use Rattle.action_check.proofs.Known.{left_empty}
use Rattle.action_check.proofs.Whole.{maxes_within}
use Rattle.commands.proofs.Bodies.{limits_of}

-- ---- what a run leaves as it is

module _ (f : Shown → Verdict) (start : Config) where
  -- what holds of the entry of each step from such a world holds of each entry
  pub of_each : (P : Entry → Type 0) → ((c d : Config) (e : Entry) → IsFramed start c → Step f c e d → P e) → (c last : Config) (es : List Entry) → IsFramed start c → Run f c es last → All P es
  of_each P each c last [] is run = All-nil P
  of_each P each c last (e ∷ es) is (mid, step, run) = All-cons P e es (each c mid e is step) (of_each P each mid last es (framed_step f start c mid e is step) run)

-- ---- maxima

small_maxes : (k : ℕ) (ns : List ℕ) → All (λ n. n ≤ most_value) ns → All (λ m. m ≤ most_value) (first_or_zero k ns)
small_maxes zero ns small = All-nil (λ m. m ≤ most_value)
small_maxes (suc k) [] small = All-cons (λ m. m ≤ most_value) 0 (first_or_zero k []) (omega arith) (small_maxes k [] small)
small_maxes (suc k) (n ∷ ns) small = All-cons (λ m. m ≤ most_value) n (first_or_zero k ns) (All-head (λ m. m ≤ most_value) n ns small) (small_maxes k ns (All-tail (λ m. m ≤ most_value) n ns small))

past_zero : (k : ℕ) (ns : List ℕ) (i : ℕ) → length ns ≤ i → get_or (first_or_zero k ns) i 0 ≡ 0
past_zero zero ns i le = refl
past_zero (suc k) [] zero le = refl
past_zero (suc k) [] (suc i) le = past_zero k [] i (omega arith)
past_zero (suc k) (n ∷ ns) zero le = absurd (omega arith)
past_zero (suc k) (n ∷ ns) (suc i) le = past_zero k ns i (omega arith)

pub small_maxes_of : (p : Program) → faults p ≡ [] → All (λ m. m ≤ most_value) (maxes_of p)
small_maxes_of p e = small_maxes most_vars (map (λ (v : Var). v.max.value) p.vars) (All-map (λ n. n ≤ most_value) (λ (v : Var). v.max.value) p.vars (maxes_within [] p.vars (left_empty (vars_faults [] p.vars) (actions_faults (at_start p) [] p.actions) e)))

pub past_maxes_of : (p : Program) (i : ℕ) → length p.vars ≤ i → slice_index (maxes_of p) i ≡ 0
past_maxes_of p i le = let long = length-map p.vars (λ (v : Var). v.max.value) in past_zero most_vars (map (λ (v : Var). v.max.value) p.vars) i (omega arith)

-- ---- worlds that can be written

-- a program without faults, and a shape of its maxima with few amoebots, each id one's
pub record MayRun (p : Program) (start : Config) : Type 0 where
  pub vars : length p.vars ≤ most_vars
  pub checked : faults p ≡ []
  pub maxes : start.maxes ≡ maxes_of p
  pub few : length start.bots ≤ most_bots
  pub no_gaps : (id : ℕ) → id < length start.bots → IsSome (bot_at start id)

module _ (p : Program) (start : Config) (may : MayRun p start) (c : Config) (is : IsFramed start c) where
  pub maxes_are : c.maxes ≡ maxes_of p
  maxes_are = ap (λ (x : Config). x.maxes) is.same.rest ∙ may.maxes

  small : All (λ m. m ≤ most_value) c.maxes
  small = subst (λ (ms : List ℕ). All (λ m. m ≤ most_value) ms) (sym maxes_are) (small_maxes_of p may.checked)

  none_past : (k : ℕ) → length p.vars ≤ k → slice_index c.maxes k ≡ 0
  none_past k le = ap (λ (ms : List ℕ). slice_index ms k) maxes_are ∙ past_maxes_of p k le

  pub has_limits : (i : ℕ) (b : Bot) → bot_at c i ≡ Some b → HasLimits (length p.vars) b
  has_limits i b at = limits_of (length p.vars) c may.vars is.valid.area is.valid.eight small none_past b (is.valid.each i b at)

  pub is_writable : (version : ℕ) → (may_have_walls version ≡ false → start.walls ≡ []) → shape.IsWritableConfig version (length p.vars) c
  is_writable version walls = record {
    valid = is.valid;
    walls = λ none. ap (λ (x : Config). x.walls) is.same.rest ∙ walls none;
    few = (let size = is.same.size in let few = may.few in omega arith);
    no_gaps = λ id lt. is.same.ids id ∙ may.no_gaps id (let size = is.same.size in omega arith);
    maxes = small;
    zeros = λ i b at. (has_limits i b at).zeros;
  }
