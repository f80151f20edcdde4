-- Which request a line is.
use Rattle.std.specs.Prelude.{ℕ, List, [], ◌∷◌, Option, Some, None, option_map, if◌then◌else◌, codes, pos}
use Rattle.std.specs.Str.{bytes_eq}
use Rattle.rx_base.specs.declared.ids.PlaceId.{PlaceId}
use Rattle.rx_base.specs.declared.ids.TaskId.{TaskId}
use Rattle.rx_base.specs.declared.values.Fault.{Fault}
use Rattle.rx_base.specs.declared.values.Fault.TheVariants.{Thrown}
use Rattle.rx_fields.specs.Words.{pieces}
use Rattle.rx_fields.specs.Inside.Readers.{Reader, followed, done, many, all_read}
use Rattle.rx_fields.specs.Inside.FieldWords.{number_below, task_at, place_at}
use Rattle.rx_coordinator.specs.declared.requests.Request.{Request}
use Rattle.rx_coordinator.specs.declared.requests.Request.TheVariants.{Open, At, Spawn, Send, Arrive, Wait, Release, End, Death, Join, Root}

-- a fault is a number of at most nine digits
abbrev pub fault_word : List ℕ → Option Fault
fault_word w = option_map (λ n. Thrown (pos n)) (number_below 1000000000 w)

-- faults, up to the last word
abbrev pub faults_read : List (List ℕ) → Option (List Fault)
faults_read ws = all_read (Some (many fault_word ws))

-- how a task is started
abbrev pub start_of : List ℕ → TaskId → PlaceId → Option Request
start_of verb t to =
    if bytes_eq verb (codes "at") then Some (At t to) else (
    if bytes_eq verb (codes "spawn") then Some (Spawn t to) else (
    if bytes_eq verb (codes "send") then Some (Send t to) else None))

-- with a place, which is a number below 256
abbrev pub start_at : List ℕ → TaskId → Reader Request
start_at verb t = followed (place_at 256) (λ to ws. option_map (λ q. (q, ws)) (start_of verb t to))

-- what a task asks for
abbrev pub asked_at : List ℕ → TaskId → Reader Request
asked_at verb t ws =
    if bytes_eq verb (codes "open") then Some (Open t, ws) else (
    if bytes_eq verb (codes "arrive") then Some (Arrive t, ws) else (
    if bytes_eq verb (codes "release") then Some (Release t, ws) else start_at verb t ws))

-- a request that has no fault
abbrev pub fields_at : List ℕ → Reader Request
fields_at verb ws =
    if bytes_eq verb (codes "join") then Some (Join, ws) else (
    if bytes_eq verb (codes "root") then Some (Root, ws) else (
    if bytes_eq verb (codes "death") then followed (place_at 256) (λ p. done (Death p)) ws else followed task_at (asked_at verb) ws))

-- a task, and then faults up to the last word
abbrev pub ending_of : (TaskId → List Fault → Request) → Option (TaskId × List (List ℕ)) → Option Request
ending_of ask None = None
ending_of ask (Some x) = option_map (ask x.0) (faults_read x.1)

-- the request whose first word is the verb
abbrev pub words_request : List ℕ → List (List ℕ) → Option Request
words_request verb ws =
    if bytes_eq verb (codes "wait") then ending_of (λ t thrown. Wait t thrown) (task_at ws) else (
    if bytes_eq verb (codes "end") then ending_of (λ t thrown. End t thrown) (task_at ws) else all_read (fields_at verb ws))

abbrev pub pieces_request : List (List ℕ) → Option Request
pieces_request [] = None
pieces_request (verb ∷ ws) = words_request verb ws

-- the request that a line is, or none where it is none
abbrev pub line_request : List ℕ → Option Request
line_request line = pieces_request (pieces 32 line)
