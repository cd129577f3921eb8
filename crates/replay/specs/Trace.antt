-- The trace of a run: its text, as a function of the program and the run.
use Rattle.std.specs.Prelude.{◌≡◌, ℕ, ℤ, ◌+◌, ◌<◌, Bool, true, false, List, [], ◌∷◌, ◌++◌, length, All, Option, Some, None, codes, slice_index_or}
use Rattle.std.specs.{Fmt.{decimal, signed_decimal}, List.flat_map}
use Rattle.guest_code.specs.Program.{Program, thread_at, variable_at, semaphore_at}
use Rattle.semantics.specs.declared.state.Stop.{Stop, TheVariants.{Assert, NotHeld, SemFull}}
use Rattle.semantics.specs.declared.view.Kind.{Kind, TheVariants.{Done, Failed, Stuck}}
use Rattle.replay.specs.{Run.{Run, run_of}, declared.run.Act.Act}
use Rattle.replay.specs.declared.run.Act.TheVariants.{Load, Store, Add, Cas, Lock, Unlock, Wait, Retake, Signal, Broadcast, Acquire, Release}
use Rattle.replay.specs.declared.run.Line.{Line}

-- names

abbrev pub thread_name : Program → ℕ → List ℕ
thread_name p t = (thread_at p t).name

abbrev pub variable_name : Program → ℕ → List ℕ
variable_name p x = (variable_at p x).name

abbrev pub mutex_name : Program → ℕ → List ℕ
mutex_name p m = slice_index_or p.mutexes m []

abbrev pub condition_name : Program → ℕ → List ℕ
condition_name p c = slice_index_or p.conditions c []

abbrev pub semaphore_name : Program → ℕ → List ℕ
semaphore_name p k = (semaphore_at p k).name

-- parts of a line

-- whether a `cas` hit, and the value that it then stored
abbrev pub hit_text : Option ℤ → List ℕ
hit_text (Some v) = codes " hit " ++ signed_decimal v
hit_text None = codes " miss"

-- what a step did: its word, its objects, and the values read and stored
abbrev pub act_text : Program → Act → List ℕ
act_text p (Load x v) = codes "load " ++ variable_name p x ++ codes " " ++ signed_decimal v
act_text p (Store x v) = codes "store " ++ variable_name p x ++ codes " " ++ signed_decimal v
act_text p (Add x v w) =
    codes "add " ++ variable_name p x ++ codes " " ++ signed_decimal
    v ++ (codes " " ++ signed_decimal w)
act_text p (Cas x v hit) =
    codes "cas " ++ variable_name p x ++ codes " " ++ signed_decimal v ++ hit_text hit
act_text p (Lock m) = codes "lock " ++ mutex_name p m
act_text p (Unlock m) = codes "unlock " ++ mutex_name p m
act_text p (Wait c m) = codes "wait " ++ condition_name p c ++ codes " " ++ mutex_name p m
act_text p (Retake m) = codes "retake " ++ mutex_name p m
act_text p (Signal c) = codes "signal " ++ condition_name p c
act_text p (Broadcast c) = codes "broadcast " ++ condition_name p c
act_text p (Acquire k) = codes "acquire " ++ semaphore_name p k
act_text p (Release k) = codes "release " ++ semaphore_name p k

-- the mark of a preempting switch
abbrev pub preempt_text : Bool → List ℕ
preempt_text true = codes " preempt"
preempt_text false = []

-- why the thread stopped, if it did
abbrev pub stop_text : Option Stop → List ℕ
stop_text (Some Assert) = codes " stop assert"
stop_text (Some NotHeld) = codes " stop not-held"
stop_text (Some SemFull) = codes " stop sem-full"
stop_text None = []

-- the word of a kind
abbrev pub kind_text : Option Kind → List ℕ
kind_text (Some Done) = codes "done"
kind_text (Some Failed) = codes "failed"
kind_text (Some Stuck) = codes "stuck"
kind_text None = codes "none"

-- lines, each with its line feed

-- a thread that stopped at the start, where nothing but an assertion can stop it
abbrev pub start_line : Program → ℕ → List ℕ
start_line p t = codes "start " ++ thread_name p t ++ codes " stop assert\n"

-- the step at place k
abbrev pub step_line : Program → ℕ → Line → List ℕ
step_line p k line =
    decimal k ++ codes " " ++ thread_name p line.thread ++ codes " " ++ act_text p line.act
    ++ preempt_text line.preempting ++ stop_text line.stop ++ codes "\n"

-- the steps from place k on
abbrev pub step_lines : Program → ℕ → List Line → List ℕ
step_lines p k [] = []
step_lines p k (line ∷ lines) = step_line p k line ++ step_lines p (k + 1) lines

-- the values of the variables from number x on
abbrev pub values_text : Program → ℕ → List ℤ → List ℕ
values_text p x [] = []
values_text p x (v ∷ vs) =
    codes " " ++ variable_name p x ++ codes "=" ++ signed_decimal v ++ values_text p (x + 1) vs

-- the three lines at the end
abbrev pub end_lines : Program → Run → List ℕ
end_lines p r =
    codes "preemptions " ++ decimal r.preemptions ++ codes "\nkind " ++ kind_text r.kind
    ++ codes "\nvars" ++ values_text p 0 r.vars ++ codes "\n"

-- the text of a run
abbrev pub trace : Program → Run → List ℕ
trace p r = flat_map (start_line p) r.stopped ++ step_lines p 0 r.lines ++ end_lines p r

-- the text of a schedule
abbrev pub Trace : Program → List ℕ → List ℕ
Trace p w = trace p (run_of p w)

-- which runs can be told with the program's names

-- the step was on objects of the program
abbrev pub IsValidAct : Program → Act → Type 0
IsValidAct p (Load x v) = x < length p.variables
IsValidAct p (Store x v) = x < length p.variables
IsValidAct p (Add x v w) = x < length p.variables
IsValidAct p (Cas x v hit) = x < length p.variables
IsValidAct p (Lock m) = m < length p.mutexes
IsValidAct p (Unlock m) = m < length p.mutexes
IsValidAct p (Wait c m) = (c < length p.conditions) × (m < length p.mutexes)
IsValidAct p (Retake m) = m < length p.mutexes
IsValidAct p (Signal c) = c < length p.conditions
IsValidAct p (Broadcast c) = c < length p.conditions
IsValidAct p (Acquire k) = k < length p.semaphores
IsValidAct p (Release k) = k < length p.semaphores

-- a step of a thread of the program on objects of the program
pub record IsValidLine (p : Program) (line : Line) : Type 0 where
  pub thread : line.thread < length p.threads
  pub act : IsValidAct p line.act

-- each thread and object in the run is one of the program, and each variable has one value
pub record IsValidRun (p : Program) (r : Run) : Type 0 where
  pub stopped : All (λ t. t < length p.threads) r.stopped
  pub lines : All (IsValidLine p) r.lines
  pub vars : length r.vars ≡ length p.variables
