use Rattle.std.proofs.Common.{◌∷◌, [], ◌∙◌, refl}
use Rattle.std.specs.Prelude.{codes}
use Rattle.action_tree.specs.Roles.{entry, words}
use Rattle.action_tree.specs.declared.role.Role.TheVariants.{AName, Foreign, ActionWord, AndWord, QuantifierWord, TestWord, SwitchWord, OdWord, OrWord, ThenWord, AtomWord, EndWord, TurnWord}
use Rattle.action_tree.proofs.Tables.{by_letter, moved_first}
use Rattle.action_tree.proofs.roles.words_from.Goals as goal

pub returns-in-97 : goal.returns-in-97
returns-in-97 c = λ rest. rw c.in-97.is (moved_first AName (97 ∷ rest) (entry (codes "and") AndWord) (entry (codes "amoebot") Foreign ∷ entry (codes "action") ActionWord ∷ []) (entry (codes "any") QuantifierWord ∷ entry (codes "all") QuantifierWord ∷ entry (codes "at_head") TestWord ∷ []) refl ∙ by_letter AName 97 rest words)

pub returns-in-99 : goal.returns-in-99
returns-in-99 c = λ rest. rw c.in-99.is (by_letter AName 99 rest words)

pub returns-in-100 : goal.returns-in-100
returns-in-100 c = λ rest. rw c.in-100.is (by_letter AName 100 rest words)

pub returns-in-101 : goal.returns-in-101
returns-in-101 c = λ rest. rw c.in-101.is (by_letter AName 101 rest words)

pub returns-in-102 : goal.returns-in-102
returns-in-102 c = λ rest. rw c.in-102.is (by_letter AName 102 rest words)

pub returns-in-103 : goal.returns-in-103
returns-in-103 c = λ rest. rw c.in-103.is (by_letter AName 103 rest words)

pub returns-in-104 : goal.returns-in-104
returns-in-104 c = λ rest. rw c.in-104.is (by_letter AName 104 rest words)

pub returns-in-105 : goal.returns-in-105
returns-in-105 c = λ rest. rw c.in-105.is (by_letter AName 105 rest words)

pub returns-in-108 : goal.returns-in-108
returns-in-108 c = λ rest. rw c.in-108.is (by_letter AName 108 rest words)

pub returns-in-109 : goal.returns-in-109
returns-in-109 c = λ rest. rw c.in-109.is (by_letter AName 109 rest words)

pub returns-in-110 : goal.returns-in-110
returns-in-110 c = λ rest. rw c.in-110.is (by_letter AName 110 rest words)

pub returns-in-111 : goal.returns-in-111
returns-in-111 c = λ rest. rw c.in-111.is (moved_first AName (111 ∷ rest) (entry (codes "or") OrWord) (entry (codes "on") SwitchWord ∷ entry (codes "off") SwitchWord ∷ entry (codes "od") OdWord ∷ []) ([]) refl ∙ by_letter AName 111 rest words)

pub returns-in-112 : goal.returns-in-112
returns-in-112 c = λ rest. rw c.in-112.is (by_letter AName 112 rest words)

pub returns-in-116 : goal.returns-in-116
returns-in-116 c = λ rest. rw c.in-116.is (moved_first AName (116 ∷ rest) (entry (codes "turn") TurnWord) (entry (codes "then") ThenWord ∷ entry (codes "true") AtomWord ∷ entry (codes "tail") EndWord ∷ []) ([]) refl ∙ by_letter AName 116 rest words)

pub returns-in-118 : goal.returns-in-118
returns-in-118 c = λ rest. rw c.in-118.is (by_letter AName 118 rest words)

pub returns-in-119 : goal.returns-in-119
returns-in-119 c = λ rest. rw c.in-119.is (by_letter AName 119 rest words)
