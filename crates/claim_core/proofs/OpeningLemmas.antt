-- The core before the first step.
use Rattle.std.proofs.Common.{◌≡◌, ℕ, zero, suc, ◌+◌, ◌-◌, ◌*◌, ◌≤◌, List, [], ◌∷◌, ◌++◌, map, length, take, None, Bool, true, ap, sym, refl, subst, ◌∙◌, arith}
use Rattle.std.specs.Prelude.{replicate, if◌then◌else◌}
use Rattle.std.specs.List.{All}
use Rattle.std.proofs.lemmas.List.{length-replicate}
use Rattle.amoebot_state.specs.declared.verdict.Verdict.{Verdict}
use Rattle.amoebot_state.specs.declared.verdict.Entry.{Entry}
use Rattle.amoebot_state.specs.Configs.{Config}
use Rattle.amoebot_state.specs.Zones.{Shown}
use Rattle.amoebot_state.specs.Steps.{Run}
use Rattle.claim_core.specs.declared.marks.Mark.{Mark}
use Rattle.claim_core.specs.declared.machine.CoreCaller.{CoreCaller}
use Rattle.claim_core.specs.Turns.{CallerLists, MarkLists, Kept}
use Rattle.claim_core.specs.Cells.{values_of}
use Rattle.claim_core.specs.Machine.{Setup, opening}
use Rattle.claim_core.specs.Soundness.{IsSetup}
use Rattle.claim_core.specs.Cores.{Begins, unmarked, state_of, callers_with, IsCore}
use Rattle.claim_core.proofs.Seats.{callers_fresh, fresh_zones, unmarked-none}
use Rattle.claim_core.proofs.Ranks.{length-values}

map-const : {A B : Type 0} (x : B) (xs : List A) → map (λ (_ : A). x) xs ≡ replicate (length xs) x
map-const x [] = refl
map-const x (y ∷ xs) = ap (λ zs. x ∷ zs) (map-const x xs)

-- what a growth from nothing gives
pub grown : {A : Type 0} (n old : ℕ) (x : A) (xs new : List A) (ok : Bool) → new ≡ (if ok then take n xs ++ replicate (n - old) x else xs) → ok ≡ true → xs ≡ [] → old ≡ 0 → new ≡ replicate n x
grown n old x xs new ok grew is_ok none zero_len =
    grew ∙ ap (λ b. if b then take n xs ++ replicate (n - old) x else xs) is_ok ∙ ap (λ ys. take n ys ++ replicate (n - old) x) none ∙ nothing n ∙ ap (λ m. replicate m x) (let m : n - old ≡ n = omega arith in m)
  where
    nothing : (k : ℕ) → take k [] ++ replicate (n - old) x ≡ replicate (n - old) x
    nothing zero = refl
    nothing (suc k) = refl

module _ (verdict : Shown → Verdict) (world : Config) (lists : CallerLists) (tags : List ℕ) (journal : Kept) (seats : List CoreCaller) (marks : MarkLists) (first : journal.first ≡ world) (entries : journal.entries ≡ []) (free : tags ≡ replicate (world.area.w * world.area.h + length world.bots) 0) (many : length seats ≡ length lists.ids) (begin : All (Begins lists.turns 0) seats) (told : marks ≡ record { turns = lists.turns; marks = replicate (length lists.ids) [] }) where
  abbrev g : Setup
  g = record { verdict = verdict; world = world; lists = lists }

  same_marks : marks.marks ≡ replicate (length lists.ids) []
  same_marks = ap (λ (m : MarkLists). m.marks) told

  pub opens_so : state_of tags world journal None seats marks ≡ opening g
  opens_so = λ i. record {
    tags = (free ∙ ap (λ n. replicate n 0) (sym (length-values world)) ∙ sym (map-const 0 (values_of world))) i;
    values = values_of world;
    journal = entries i;
    holder = None;
    callers = (ap (callers_with seats) same_marks ∙ callers_fresh g seats lists.ids many begin) i;
  }

  pub is_core : IsSetup g → length lists.ids * lists.turns ≤ journal.spare → IsCore verdict lists tags world journal None seats marks
  is_core ok room =
      let none = ap (unmarked lists.turns) same_marks ∙ unmarked-none lists.turns (length lists.ids) in
      let few = ok.lists.few.in_all in
      record {
        setup = subst (λ w. let s : Setup = record { verdict = verdict; world = w; lists = lists } in IsSetup s) (sym first) ok;
        steps = [];
        reached = opens_so ∙ ap (λ w. let s : Setup = record { verdict = verdict; world = w; lists = lists } in opening s) (sym first);
        run = subst (λ es. Run verdict journal.first es world) (sym entries) (sym first);
        turns = ap (λ (m : MarkLists). m.turns) told;
        each = ap (λ (ms : List (List Mark)). length ms) same_marks ∙ length-replicate (length lists.ids) [] ∙ sym many;
        room = omega (arith, none, room);
        few = omega (arith, none, few, ap (λ (es : List Entry). length es) entries);
        zones = fresh_zones journal.first.area lists lists.turns seats begin;
      }
