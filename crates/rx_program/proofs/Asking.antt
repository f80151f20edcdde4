-- What was asked for, by the command that was read.
use Rattle.std.proofs.Common.{◌≡◌, ℕ, false, List, Some, refl, ap, subst, Option}
use Rattle.rx_rules.proofs.Common.{Block, Given}
use Rattle.rx_syntax.specs.Shape.{Shape, Stands}
use Rattle.rx_history.specs.Setups.{given}
use Rattle.rx_history.specs.declared.setup.Setup.{Setup}
use Rattle.rx_words.specs.Words.{Asked, Step, Gen, Check, Verify, Span, Live, BadWord, Source, source}
use Rattle.rx_words.specs.Commands.{IsAsked, IsLiveCommand, source_of}
use Rattle.rx_words.specs.declared.command.LiveWords.{LiveWords}
use Rattle.rx_words.specs.declared.command.Command.{Command}
use Rattle.rx_words.specs.declared.command.Command.TheVariants as commands
use Rattle.rx_words.specs.declared.command.PickWords.{PickWords}
use Rattle.rx_program.specs.declared.status.Status.{Status}
use Rattle.rx_program.specs.Top.{takes_pair, WasScript, IsGoodScript, IsGoodPair, CanDo, IsTrace, IsLiveText, IsOutcome}
use Rattle.rx_program.specs.Inside.Takes.{takes}

-- the source was read as a script, for which a shape stands
abbrev pub Told : Option (List ℕ) → Option (List ℕ) → Shape → Type 0
Told old new shape = (code : Block) × Stands shape code × WasScript old new code

-- bytes that a step can do
pub step-can : (setup : Setup) (picks : PickWords) (a : Asked) (left : Option (List ℕ)) → IsAsked (commands.Step setup picks) a → CanDo a left → (bytes : List ℕ) × (left ≡ Some bytes) × IsGoodScript bytes
step-can setup picks (Step U s) left is can = can
step-can setup picks (Gen n U s) left is can = absurd is
step-can setup picks Check left is can = absurd is
step-can setup picks Verify left is can = absurd is
step-can setup picks Span left is can = absurd is
step-can setup picks (Live U n watch) left is can = absurd is
step-can setup picks (BadWord k) left is can = absurd is

pub check-can : (a : Asked) (left : Option (List ℕ)) → IsAsked commands.Check a → CanDo a left → (bytes : List ℕ) × (left ≡ Some bytes) × IsGoodScript bytes
check-can (Step U s) left is can = absurd is
check-can (Gen n U s) left is can = absurd is
check-can Check left is can = can
check-can Verify left is can = absurd is
check-can Span left is can = absurd is
check-can (Live U n watch) left is can = absurd is
check-can (BadWord k) left is can = absurd is

-- what a step gives
pub step-done : (setup : Setup) (picks : PickWords) (a : Asked) (old new : Option (List ℕ)) (shape : Shape) (text : List ℕ) (status : Status) → IsAsked (commands.Step setup picks) a → Told old new shape → ((code : Block) → Stands shape code → IsTrace code (given setup) (source_of picks) text status) → IsOutcome a old new text status
step-done setup picks (Step U s) old new shape text status is w made =
    (w.0, w.2, subst (λ (V : Given). IsTrace w.0 V s text status) is.0 (subst (λ (o : Source). IsTrace w.0 (given setup) o text status) is.1 (made w.0 w.1)))
step-done setup picks (Gen n U s) old new shape text status is w made = absurd is
step-done setup picks Check old new shape text status is w made = absurd is
step-done setup picks Verify old new shape text status is w made = absurd is
step-done setup picks Span old new shape text status is w made = absurd is
step-done setup picks (Live U n watch) old new shape text status is w made = absurd is
step-done setup picks (BadWord k) old new shape text status is w made = absurd is

-- bytes that `live` can do
pub live-can : (live : LiveWords) (a : Asked) (left : Option (List ℕ)) → IsLiveCommand live a → CanDo a left → (bytes : List ℕ) × (left ≡ Some bytes) × IsGoodScript bytes
live-can live (Step U s) left is can = absurd is
live-can live (Gen n U s) left is can = absurd is
live-can live Check left is can = absurd is
live-can live Verify left is can = absurd is
live-can live Span left is can = absurd is
live-can live (Live U n watch) left is can = can
live-can live (BadWord k) left is can = absurd is

-- what `live` gives
pub live-done : (live : LiveWords) (a : Asked) (old new : Option (List ℕ)) (shape : Shape) (text : List ℕ) (status : Status) → IsLiveCommand live a → Told old new shape → ((code : Block) → Stands shape code → IsLiveText code (given live.setup) live.watch text status) → IsOutcome a old new text status
live-done live (Step U s) old new shape text status is w made = absurd is
live-done live (Gen n U s) old new shape text status is w made = absurd is
live-done live Check old new shape text status is w made = absurd is
live-done live Verify old new shape text status is w made = absurd is
live-done live Span old new shape text status is w made = absurd is
live-done live (Live U n watch) old new shape text status is w made = (w.0, w.2, subst (λ (o : Option ℕ). IsLiveText w.0 U o text status) is.5 (subst (λ (V : Given). IsLiveText w.0 V live.watch text status) is.0 (made w.0 w.1)))
live-done live (BadWord k) old new shape text status is w made = absurd is

-- pairs to which `verify` can answer
pub verify-can : (a : Asked) (left : Option (List ℕ)) → IsAsked commands.Verify a → CanDo a left → (bytes : List ℕ) × (left ≡ Some bytes) × IsGoodPair bytes
verify-can (Step U s) left is can = absurd is
verify-can (Gen n U s) left is can = absurd is
verify-can Check left is can = absurd is
verify-can Verify left is can = can
verify-can Span left is can = absurd is
verify-can (Live U n watch) left is can = absurd is
verify-can (BadWord k) left is can = absurd is

-- pairs to which `span` can answer
pub span-can : (a : Asked) (left : Option (List ℕ)) → IsAsked commands.Span a → CanDo a left → (bytes : List ℕ) × (left ≡ Some bytes) × IsGoodPair bytes
span-can (Step U s) left is can = absurd is
span-can (Gen n U s) left is can = absurd is
span-can Check left is can = absurd is
span-can Verify left is can = absurd is
span-can Span left is can = can
span-can (Live U n watch) left is can = absurd is
span-can (BadWord k) left is can = absurd is

-- what is asked for takes a pair exactly where the command does
pub asked-takes : (c : Command) (a : Asked) → IsAsked c a → takes_pair a ≡ takes c
asked-takes (commands.Step setup picks) (Step U s) is = refl
asked-takes (commands.Step setup picks) (Gen n U s) is = absurd is
asked-takes (commands.Step setup picks) Check is = absurd is
asked-takes (commands.Step setup picks) Verify is = absurd is
asked-takes (commands.Step setup picks) Span is = absurd is
asked-takes (commands.Step setup picks) (Live U n watch) is = absurd is
asked-takes (commands.Step setup picks) (BadWord k) is = absurd is
asked-takes (commands.Gen size setup seed) (Step U s) is = absurd is
asked-takes (commands.Gen size setup seed) (Gen n U s) is = refl
asked-takes (commands.Gen size setup seed) Check is = absurd is
asked-takes (commands.Gen size setup seed) Verify is = absurd is
asked-takes (commands.Gen size setup seed) Span is = absurd is
asked-takes (commands.Gen size setup seed) (Live U n watch) is = absurd is
asked-takes (commands.Gen size setup seed) (BadWord k) is = absurd is
asked-takes commands.Check (Step U s) is = absurd is
asked-takes commands.Check (Gen n U s) is = absurd is
asked-takes commands.Check Check is = refl
asked-takes commands.Check Verify is = absurd is
asked-takes commands.Check Span is = absurd is
asked-takes commands.Check (Live U n watch) is = absurd is
asked-takes commands.Check (BadWord k) is = absurd is
asked-takes commands.Verify (Step U s) is = absurd is
asked-takes commands.Verify (Gen n U s) is = absurd is
asked-takes commands.Verify Check is = absurd is
asked-takes commands.Verify Verify is = refl
asked-takes commands.Verify Span is = absurd is
asked-takes commands.Verify (Live U n watch) is = absurd is
asked-takes commands.Verify (BadWord k) is = absurd is
asked-takes commands.Span (Step U s) is = absurd is
asked-takes commands.Span (Gen n U s) is = absurd is
asked-takes commands.Span Check is = absurd is
asked-takes commands.Span Verify is = absurd is
asked-takes commands.Span Span is = refl
asked-takes commands.Span (Live U n watch) is = absurd is
asked-takes commands.Span (BadWord k) is = absurd is

-- `live` takes a script alone
pub live-takes : (live : LiveWords) (a : Asked) → IsLiveCommand live a → takes_pair a ≡ false
live-takes live (Step U s) is = absurd is
live-takes live (Gen n U s) is = absurd is
live-takes live Check is = absurd is
live-takes live Verify is = absurd is
live-takes live Span is = absurd is
live-takes live (Live U n watch) is = refl
live-takes live (BadWord k) is = absurd is
