-- One amoebot that becomes another one of the same id.
use Rattle.std.proofs.Common.{◌≡◌, ◌≢◌, ◌⊎◌, ℕ, length, Bool, true, false, ap, sym, ◌∙◌, refl, subst, inl, inr, Option, Some, None}
use Rattle.std.specs.Prelude.{is_some, if◌then◌else◌}
use Rattle.std.proofs.lemmas.Bool.{cases_Bool, cases_eq, both_ways}
use Rattle.std.proofs.lemmas.List.{get_or-set_same, get_or-set_other, length-set}
use Rattle.std.proofs.lemmas.Option.{same_Some}
use Rattle.tri_lattice.specs.declared.node.Node.{Node}
use Rattle.amoebot_state.specs.declared.bot.Bot.{Bot}
use Rattle.amoebot_state.specs.Ports.{is_own}
use Rattle.amoebot_state.specs.Configs.{Config, IsValid, IsBot, frame, bot_at, covers, occupant, set_bot}
use Rattle.amoebot_state.proofs.Occupants.{occupant_at, occupant_none, nobody_covers, occupant_same, id_below}

-- the amoebot may become the other one: that one may stand in the frame, and each node of it is one of the amoebot's or empty
pub record MayBecome (c : Config) (i : ℕ) (a b : Bot) : Type 0 where
  pub valid : IsValid c
  pub there : bot_at c i ≡ Some a
  pub fits : IsBot (frame c) b
  pub free : (v : Node) → is_own b v ≡ true → (is_own a v ≡ true) ⊎ (occupant c v ≡ None)

-- the occupant of a node after that
abbrev pub occupant_then : Bool → Bool → ℕ → Option ℕ → Option ℕ
occupant_then now was i o = if now then Some i else if was then None else o

pub at_own : (c : Config) (i : ℕ) (a b : Bot) → bot_at c i ≡ Some a → bot_at (set_bot c i b) i ≡ Some b
at_own c i a b at = get_or-set_same c.bots i (Some b) None (id_below c i a at)

pub at_other : (c : Config) (i : ℕ) (b : Bot) (j : ℕ) → j ≢ i → bot_at (set_bot c i b) j ≡ bot_at c j
at_other c i b j ne = get_or-set_other c.bots i j (Some b) None ne

-- the ids are the same
pub same_ids : (c : Config) (i : ℕ) (a b : Bot) → bot_at c i ≡ Some a → (j : ℕ) → is_some (bot_at (set_bot c i b) j) ≡ is_some (bot_at c j)
same_ids c i a b at j = elim (cases_eq j i) [
  | inl e ↦ ap is_some (ap (bot_at (set_bot c i b)) e ∙ at_own c i a b at) ∙ sym (ap is_some (ap (bot_at c) e ∙ at))
  | inr ne ↦ ap is_some (at_other c i b j ne)
]

pub same_size : (c : Config) (i : ℕ) (b : Bot) → length (set_bot c i b).bots ≡ length c.bots
same_size c i b = length-set c.bots i (Some b)

module _ (c : Config) (i : ℕ) (a b : Bot) (may : MayBecome c i a b) where
  own_now : (v : Node) → covers (bot_at (set_bot c i b) i) v ≡ is_own b v
  own_now v = ap (λ o. covers o v) (at_own c i a b may.there)

  own_was : (v : Node) → covers (bot_at c i) v ≡ is_own a v
  own_was v = ap (λ o. covers o v) may.there

  -- who covers a node covered it, or is the amoebot on a node that was empty
  who : (j : ℕ) (v : Node) → covers (bot_at (set_bot c i b) j) v ≡ true → (covers (bot_at c j) v ≡ true) ⊎ ((j ≡ i) × (occupant c v ≡ None))
  who j v t = elim (cases_eq j i) [
    | inl e ↦ elim (may.free v (sym (own_now v) ∙ ap (λ k. covers (bot_at (set_bot c i b) k) v) (sym e) ∙ t)) [
      | inl own ↦ inl (ap (λ k. covers (bot_at c k) v) e ∙ own_was v ∙ own)
      | inr empty ↦ inr (e, empty)
    ]
    | inr ne ↦ inl (ap (λ o. covers o v) (sym (at_other c i b j ne)) ∙ t)
  ]

  pub become_valid : IsValid (set_bot c i b)
  become_valid = record {
    area = may.valid.area;
    eight = may.valid.eight;
    rising = may.valid.rising;
    walled = may.valid.walled;
    each = λ j d e. elim (cases_eq j i) [
      | inl same ↦ let P : Bot → Type 0 = IsBot (frame c) in subst P (same_Some _ _ (sym (at_own c i a b may.there) ∙ ap (bot_at (set_bot c i b)) (sym same) ∙ e)) may.fits
      | inr ne ↦ may.valid.each j d (sym (at_other c i b j ne) ∙ e)
    ];
    apart = λ j k v s t. elim (who j v s) [
      | inl x ↦ elim (who k v t) [
        | inl y ↦ may.valid.apart j k v x y
        | inr y ↦ absurd (both_ways _ (nobody_covers c v y.1 j) x)
      ]
      | inr x ↦ elim (who k v t) [
        | inl y ↦ absurd (both_ways _ (nobody_covers c v x.1 k) y)
        | inr y ↦ x.0 ∙ sym y.0
      ]
    ];
  }

  others_as_before : (v : Node) (j : ℕ) → j ≢ i → covers (bot_at (set_bot c i b) j) v ≡ covers (bot_at c j) v
  others_as_before v j ne = ap (λ o. covers o v) (at_other c i b j ne)

  -- a node that the amoebot had and has no more is empty
  pub left_empty : (v : Node) → is_own b v ≡ false → is_own a v ≡ true → occupant (set_bot c i b) v ≡ None
  left_empty v now was = occupant_none (set_bot c i b) v (λ j. elim (cases_eq j i) [
    | inl e ↦ ap (λ k. covers (bot_at (set_bot c i b) k) v) e ∙ own_now v ∙ now
    | inr ne ↦ others_as_before v j ne ∙ elim (cases_Bool (covers (bot_at c j) v)) [
      | inl t ↦ absurd (ne (may.valid.apart j i v t (own_was v ∙ was)))
      | inr f ↦ f
    ]
  ])

  -- the occupant of each node
  pub become_occupant : (v : Node) → occupant (set_bot c i b) v ≡ occupant_then (is_own b v) (is_own a v) i (occupant c v)
  become_occupant v = elim (cases_Bool (is_own b v)) [
    | inl t ↦ rw t (occupant_at (set_bot c i b) become_valid i v (own_now v ∙ t))
    | inr f ↦ rw f (elim (cases_Bool (is_own a v)) [
      | inl t ↦ rw t (left_empty v f t)
      | inr g ↦ rw g (occupant_same (set_bot c i b) c v become_valid may.valid (λ j. elim (cases_eq j i) [
        | inl e ↦ ap (λ k. covers (bot_at (set_bot c i b) k) v) e ∙ own_now v ∙ f ∙ sym (ap (λ k. covers (bot_at c k) v) e ∙ own_was v ∙ g)
        | inr ne ↦ others_as_before v j ne
      ]))
    ])
  ]

  -- a node that it has before and after, or neither, keeps its occupant
  pub become_same : (v : Node) → is_own b v ≡ is_own a v → occupant (set_bot c i b) v ≡ occupant c v
  become_same v e = become_occupant v ∙ elim (cases_Bool (is_own a v)) [
    | inl t ↦ rw (e, t) (sym (occupant_at c may.valid i v (own_was v ∙ t)))
    | inr f ↦ rw (e, f) refl
  ]
