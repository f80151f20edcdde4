-- Worked texts, line by line.
use Rattle.std.specs.Prelude.{◌≡◌, ℕ, List, ◌++◌, codes}
use Rattle.rx_rules.specs.Examples.{ordinary_setup, ordinary_case, ordinary_case_journals, kill_setup, loss_in_transit}
use Rattle.rx_rules.specs.Examples.{loss_in_transit_journals, masked_setup, masked_fault, masked_fault_journals}
use Rattle.rx_rules.specs.Examples.{joining_setup, joining_place, joining_place_journals, brief_setup, brief_place, brief_place_journals}
use Rattle.rx_trace.specs.Text.{trace_text}

-- the text of the ordinary case
abbrev pub ordinary_text : List ℕ
ordinary_text =
    codes "rx10 trace 2\n"
    ++ codes "places 2 heap 256\n"
    ++ codes "kills\n"
    ++ codes "joins\n"
    ++ codes "history\n"
    ++ codes "0 open t0 s1 in s0 0\n"
    ++ codes "1 spawn t0 t1 in s1 0 1 0.0\n"
    ++ codes "2 wait t0 s1\n"
    ++ codes "3 arrive t1 1\n"
    ++ codes "4 print t1 7 0.0.0\n"
    ++ codes "5 end t1\n"
    ++ codes "6 release t0 s1\n"
    ++ codes "7 print t0 8 1\n"
    ++ codes "8 end t0\n"
    ++ codes "9 release host s0\n"
    ++ codes "journal 0\n"
    ++ codes "journal 1\n"
    ++ codes "done\n"

-- the text of the loss in transit
abbrev pub loss_text : List ℕ
loss_text =
    codes "rx10 trace 2\n"
    ++ codes "places 2 heap 256\n"
    ++ codes "kills 1@3\n"
    ++ codes "joins\n"
    ++ codes "history\n"
    ++ codes "0 open t0 s1 in s0 0\n"
    ++ codes "1 spawn t0 t1 in s1 0 1 0.0\n"
    ++ codes "2 wait t0 s1\n"
    ++ codes "3 death 1\n"
    ++ codes "4 release t0 s1 lost 1\n"
    ++ codes "5 end t0 thrown dead:1\n"
    ++ codes "6 release host s0 thrown dead:1\n"
    ++ codes "journal 0\n"
    ++ codes "journal 1\n"
    ++ codes "0 3 close\n"
    ++ codes "done\n"

-- the text of the masked fault
abbrev pub masked_text : List ℕ
masked_text =
    codes "rx10 trace 2\n"
    ++ codes "places 3 heap 256\n"
    ++ codes "kills 1@8\n"
    ++ codes "joins\n"
    ++ codes "history\n"
    ++ codes "0 open t0 s1 in s0 0.0.0 | 0\n"
    ++ codes "1 spawn t0 t1 in s1 0 1 0.0.0.0\n"
    ++ codes "2 wait t0 s1\n"
    ++ codes "3 arrive t1 1\n"
    ++ codes "4 open t1 s2 in s1 0.0.0.0.0\n"
    ++ codes "5 spawn t1 t2 in s2 1 2 0.0.0.0.0.0\n"
    ++ codes "6 wait t1 s2\n"
    ++ codes "7 arrive t2 2\n"
    ++ codes "8 death 1\n"
    ++ codes "9 end t2 thrown code:5 | 0.0.0.0.0.0.0\n"
    ++ codes "10 release t0 s1 lost 1 masked 1\n"
    ++ codes "11 print t0 9 0.1.0\n"
    ++ codes "12 end t0\n"
    ++ codes "13 release host s0\n"
    ++ codes "journal 0\n"
    ++ codes "journal 1\n"
    ++ codes "0 8 close\n"
    ++ codes "journal 2\n"
    ++ codes "done\n"

-- the text of the place that joins
abbrev pub joining_text : List ℕ
joining_text =
    codes "rx10 trace 2\n"
    ++ codes "places 1 heap 256\n"
    ++ codes "kills\n"
    ++ codes "joins 1\n"
    ++ codes "history\n"
    ++ codes "0 print t0 0 0\n"
    ++ codes "1 join 1\n"
    ++ codes "2 census t0 2 1\n"
    ++ codes "3 spawn t0 t1 in s0 0 1 2\n"
    ++ codes "4 end t0\n"
    ++ codes "5 arrive t1 1\n"
    ++ codes "6 print t1 1 2.0\n"
    ++ codes "7 end t1\n"
    ++ codes "8 release host s0\n"
    ++ codes "journal 0\n"
    ++ codes "journal 1\n"
    ++ codes "done\n"

-- the text of the place that joins and dies at once
abbrev pub brief_text : List ℕ
brief_text =
    codes "rx10 trace 2\n"
    ++ codes "places 2 heap 256\n"
    ++ codes "kills 2@0\n"
    ++ codes "joins 0\n"
    ++ codes "history\n"
    ++ codes "0 join 2\n"
    ++ codes "1 death 2\n"
    ++ codes "2 end t0\n"
    ++ codes "3 release host s0\n"
    ++ codes "journal 0\n"
    ++ codes "journal 1\n"
    ++ codes "journal 2\n"
    ++ codes "0 1 close\n"
    ++ codes "done\n"

-- the ordinary case has this text
abbrev pub OrdinaryCaseHasItsText : Type 0
OrdinaryCaseHasItsText = trace_text ordinary_setup ordinary_case ordinary_case_journals ≡ ordinary_text

-- so has the loss in transit
abbrev pub LossInTransitHasItsText : Type 0
LossInTransitHasItsText = trace_text kill_setup loss_in_transit loss_in_transit_journals ≡ loss_text

-- so has the masked fault
abbrev pub MaskedFaultHasItsText : Type 0
MaskedFaultHasItsText = trace_text masked_setup masked_fault masked_fault_journals ≡ masked_text

-- so has the place that joins
abbrev pub JoiningPlaceHasItsText : Type 0
JoiningPlaceHasItsText = trace_text joining_setup joining_place joining_place_journals ≡ joining_text

-- so has the place that joins and dies at once
abbrev pub BriefPlaceHasItsText : Type 0
BriefPlaceHasItsText = trace_text brief_setup brief_place brief_place_journals ≡ brief_text
