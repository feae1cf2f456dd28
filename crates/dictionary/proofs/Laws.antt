-- The three calls in words: by the fault of a write, it stores or it leaves all as it was.
use Rattle.std.proofs.Common.{◌≡◌, Some, None, Option, refl, ap, ◌∙◌}
use Rattle.dictionary.specs.declared.Fault.{Fault}
use Rattle.dictionary.specs.Objects.{look, value, put}
use Rattle.dictionary.specs.Checks.{write_fault}
use Rattle.dictionary.specs.Calls.{leaves}
use Rattle.dictionary.specs.Laws.{CallsInWords}
use Rattle.dictionary.proofs.Words.{readable, readable_back, admitted, admitted_back}
use Rattle.dictionary.proofs.Stored.{look_put, value_put_same, value_put_other}

either : {X Y : Type 0} (f : Option Fault) (g : X → Y) (made before : X) → g made ≡ g before → g (leaves f made before) ≡ g before
either None g made before e = e
either (Some f) g made before e = refl

unchanged : {X : Type 0} (f : Option Fault) (made before : X) → (f ≡ None → ⊥) → leaves f made before ≡ before
unchanged None made before n = absurd (n refl)
unchanged (Some f) made before n = refl

pub calls_in_words_lem : CallsInWords
calls_in_words_lem = record {
  reads = readable;
  reads_back = readable_back;
  writes = admitted;
  writes_back = admitted_back;
  entries = λ d a v b. either (write_fault (look d a) v) (λ x. look x b) (put d a v) d (look_put d a v b);
  written = λ d a v h. ap (λ f. value (leaves f (put d a v) d) a) (admitted_back (look d a) v h) ∙ value_put_same d a v h;
  elsewhere = λ d a v b n. either (write_fault (look d a) v) (λ x. value x b) (put d a v) d (value_put_other d a v b n);
  refused = λ d a v n. unchanged (write_fault (look d a) v) (put d a v) d (λ e. n (admitted (look d a) v e));
}
