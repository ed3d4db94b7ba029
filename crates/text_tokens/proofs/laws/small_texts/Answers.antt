use Rattle.std.proofs.Common.{refl}
use Rattle.text_tokens.specs.Scan.{skip, ready, sign_len, front, scan, scan_end, ahead_of, last_of}
use Rattle.text_tokens.proofs.PromisesLemmas.{computed}
use Rattle.text_tokens.proofs.laws.small_texts.Goals as goal

pub returns : goal.returns
unfolding skip ready sign_len front scan scan_end ahead_of last_of
returns c = record {
  nothing = computed _ _ _ refl refl;
  split = computed _ _ _ refl refl;
  longest = computed _ _ _ refl refl;
  apart = computed _ _ _ refl refl;
  lines = computed _ _ _ refl refl;
  colon = computed _ _ _ refl refl;
  bang = computed _ _ _ refl refl;
  high = computed _ _ _ refl refl;
  nine = computed _ _ _ refl refl;
  ten = computed _ _ _ refl refl;
  many = computed _ _ _ refl refl;
  too_many = computed _ _ _ refl refl;
}
