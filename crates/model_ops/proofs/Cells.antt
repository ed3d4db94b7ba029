-- Cells and their values: what belongs beside the definitions of cells.
use Rattle.std.proofs.Common.{◌≡◌, ◌⊎◌, List, [], ◌∷◌, ap, ◌∙◌, subst, inl, inr, None}
use Rattle.std.specs.Prelude.{if◌then◌else◌}
use Rattle.amoebot_state.specs.declared.cell.CellName.{CellName}
use Rattle.amoebot_state.specs.Configs.{Config, value}
use Rattle.amoebot_state.specs.Zones.{shown_cell}
use Rattle.amoebot_state.specs.Patches.{changed, same_value}
use Rattle.amoebot_state.proofs.Members.{Has, here, later, has_cases, not_in_none}
use Rattle.amoebot_state.proofs.Patched.{decide_name}
use Rattle.amoebot_state.proofs.Values.{value_same}

-- a name is in a list or not
pub has_or_not : (n : CellName) (ns : List CellName) → Has n ns ⊎ (Has n ns → ⊥)
has_or_not n [] = inr not_in_none
has_or_not n (m ∷ ns) = elim (decide_name m n) [
  | inl e ↦ inl (subst (λ k. Has n (k ∷ ns)) e here)
  | inr ne ↦ elim (has_or_not n ns) [
    | inl has ↦ inl (later has)
    | inr lacks ↦ inr (λ has. elim (has_cases has) [ inl e ↦ ne e | inr r ↦ lacks r ])
  ]
]

-- a cell whose value stays is no part of a difference
pub unchanged : (c d : Config) (n : CellName) → value d n ≡ value c n → changed c d n ≡ None
unchanged c d n e = ap (λ t. if t then None else shown_cell d n) (ap (same_value (value c n)) e ∙ value_same (value c n))
