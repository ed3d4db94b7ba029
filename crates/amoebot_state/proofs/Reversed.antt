-- That a patch the other way round leads back.
use Rattle.std.proofs.Common.{◌≡◌, ◌≢◌, ap, sym, [], ◌∷◌, Some}
use Rattle.std.specs.List.{All}
use Rattle.std.proofs.lemmas.List.Elements.{All-nil, All-cons, All-head, All-tail}
use Rattle.amoebot_state.specs.declared.cell.CellName.{CellName}
use Rattle.amoebot_state.specs.declared.cell.Cell.{Cell}
use Rattle.amoebot_state.specs.Pairs.{CellChange, Triples, cell_of, cell_value, plain_patch}
use Rattle.amoebot_state.specs.Configs.{Config, value}
use Rattle.amoebot_state.specs.Patches.{HasSameIds, HasOldValues}
use Rattle.amoebot_state.specs.Reversals.{reversed_patch, ReversedLeadsBack}

-- the same ids the other way round
same_ids_back : (old new : Config) → HasSameIds old new → HasSameIds new old
same_ids_back old new same = record {
  rest = ap (λ (c : Config). let d : Config = record c { bots = old.bots } in d) (sym same.rest);
  size = sym same.size;
  ids = λ i. sym (same.ids i);
}

-- what the values before are is what the patch the other way round gives
given_back : (c : Config) (ts : Triples) → HasOldValues c ts → All (λ (p : CellName × Cell). value c (cell_of p) ≡ Some (cell_value p)) (plain_patch (reversed_patch ts))
given_back c [] found = All-nil (λ (p : CellName × Cell). value c (cell_of p) ≡ Some (cell_value p))
given_back c (t ∷ ts) found =
    let Found : CellChange → Type 0 = λ u. value c u.0 ≡ Some u.1 in
    All-cons (λ (p : CellName × Cell). value c (cell_of p) ≡ Some (cell_value p)) (t.0, t.1) (plain_patch (reversed_patch ts)) (All-head Found t ts found) (given_back c ts (All-tail Found t ts found))

-- and what the patch gives is what it finds the other way round
pub found_now : (c : Config) (ts : Triples) → All (λ (p : CellName × Cell). value c (cell_of p) ≡ Some (cell_value p)) (plain_patch ts) → HasOldValues c (reversed_patch ts)
found_now c [] given = All-nil (λ (t : CellChange). value c t.0 ≡ Some t.1)
found_now c (t ∷ ts) given =
    let Given : CellName × Cell → Type 0 = λ p. value c (cell_of p) ≡ Some (cell_value p) in
    All-cons (λ (u : CellChange). value c u.0 ≡ Some u.1) (t.0, t.2, t.1) (reversed_patch ts) (All-head Given (t.0, t.2) (plain_patch ts) given) (found_now c ts (All-tail Given (t.0, t.2) (plain_patch ts) given))

-- it names the same cells
unnamed_back : (n : CellName) (ts : Triples) → All (λ (p : CellName × Cell). cell_of p ≢ n) (plain_patch (reversed_patch ts)) → All (λ (p : CellName × Cell). cell_of p ≢ n) (plain_patch ts)
unnamed_back n [] none = All-nil (λ (p : CellName × Cell). cell_of p ≢ n)
unnamed_back n (t ∷ ts) none =
    let Other : CellName × Cell → Type 0 = λ p. cell_of p ≢ n in
    All-cons Other (t.0, t.2) (plain_patch ts) (All-head Other (t.0, t.1) (plain_patch (reversed_patch ts)) none) (unnamed_back n ts (All-tail Other (t.0, t.1) (plain_patch (reversed_patch ts)) none))

pub reversed_leads_back : ReversedLeadsBack
reversed_leads_back old new ts valid found patched = record {
  valid = valid;
  same = same_ids_back old new patched.same;
  given = given_back old ts found;
  kept = λ n none. sym (patched.kept n (unnamed_back n ts none));
}
