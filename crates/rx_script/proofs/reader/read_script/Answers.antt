use Rattle.std.proofs.Common.{◌≡◌, ℕ, ◌-◌, ◌<◌, List, length, ap, sym, ◌∙◌, subst, arith, Some, slice_get}
use Rattle.std.proofs.lemmas.Option.{slice_get-get_or}
use Rattle.rx_syntax.specs.Tables.{names_of}
use Rattle.rx_syntax.specs.Grammar.{IsScriptOf}
use Rattle.rx_script.proofs.OneScript.{scripts-are-spelled}
use Rattle.rx_script.proofs.WholeRead.{IsScanned, parse-ok, parse-err, is-script, is-fault, start-within}
use Rattle.rx_script.proofs.reader.read_script.Goals as goal

pub returns-in-Ok-clause-ok : goal.returns-in-Ok-clause-ok
returns-in-Ok-clause-ok c =
    let s = c.in_ok-tokens.field-0 in
    let e = c.in_ok-tokens.ensures in
    let scanned : IsScanned (names_of s.names) c.args.bytes.now s.tokens.items s.starts.items = record { scans = e.scans; are_names = e.names } in
    let k = parse-ok c.deref.result.now s.tokens.items _ c.in-Ok.reader c.deref.ensures.value c.in-Ok.is c.in_ok-reader.ensures in
    let f = c.in_ok-finish-in-Ok.ensures in
    (k.script, f.ok k.script k.stands, subst (λ (names : List (List ℕ)). IsScriptOf names c.args.bytes.now k.script) (sym f.names) (is-script _ _ _ _ c.in-Ok.reader scanned k))

pub finish-requires-clause-stands : goal.finish-requires-clause-stands
finish-requires-clause-stands c =
    let s = c.in_ok-tokens.field-0 in
    let e = c.in_ok-tokens.ensures in
    let scanned : IsScanned (names_of s.names) c.args.bytes.now s.tokens.items s.starts.items = record { scans = e.scans; are_names = e.names } in
    let k = parse-ok c.deref.result.now s.tokens.items _ c.in-Ok.reader c.deref.ensures.value c.in-Ok.is c.in_ok-reader.ensures in
    let script = is-script _ _ _ _ c.in-Ok.reader scanned k in
    (k.script, k.stands, k.fits, script.lexes.are_names, scripts-are-spelled (names_of s.names) c.args.bytes.now k.script script)

pub index-requires : goal.index-requires
index-requires c =
    let s = c.in_ok-tokens.field-0 in
    let e = c.in_ok-tokens.ensures in
    let scanned : IsScanned (names_of s.names) c.args.bytes.now s.tokens.items s.starts.items = record { scans = e.scans; are_names = e.names } in
    omega (arith, start-within _ _ _ _ c.in-Err.left scanned, c.len.ensures, s.starts.ok.0, s.tokens.ok.0)

pub returns-clause-syntax : goal.returns-clause-syntax
returns-clause-syntax c at f =
    let s = c.in_ok-tokens.field-0 in
    let e = c.in_ok-tokens.ensures in
    let scanned : IsScanned (names_of s.names) c.args.bytes.now s.tokens.items s.starts.items = record { scans = e.scans; are_names = e.names } in
    let k = parse-err c.deref.result.now s.tokens.items _ c.in-Err.left c.deref.ensures.value c.in-Err.is c.in_ok-reader.ensures in
    let n : c.len.result - c.in-Err.left ≡ length s.tokens.items - c.in-Err.left = omega (arith, c.len.ensures, s.tokens.ok.0) in
    let w : c.len.result - c.in-Err.left < length s.starts.items = omega (arith, n, start-within _ _ _ _ c.in-Err.left scanned) in
    let g : slice_get s.starts.items (c.len.result - c.in-Err.left) ≡ Some c.index.result.now = slice_get-get_or s.starts.items _ c.index.result.now w ∙ ap Some (sym c.index.ensures) in
    let same : c.index.result.now ≡ at = cc in
    is-fault _ _ _ _ c.in-Err.left at scanned k (ap (slice_get s.starts.items) (sym n) ∙ g ∙ ap Some same)
