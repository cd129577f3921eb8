-- The path of a walk from the start of a program, with copies of states on the way.
use Rattle.std.specs.Prelude.{◌≡◌, ℕ, ◌*◌, ◌≤◌, ◌<◌, ℤ, Bool, false, not, ◌&&◌, nat_eq, List, []}
use Rattle.std.specs.Prelude.{length, take, drop, get_or, Option, Some, None}
use Rattle.guest_code.specs.Program.{Program, IsWellFormed}
use Rattle.semantics.specs.{Machine.{Snapshot, start}, Mask.{has, no_threads, HasEnabled}}
use Rattle.semantics.specs.declared.mask.Mask.{Mask}
use Rattle.semantics_machine.specs.{Refinement.{Shows, IsShown}, declared.machine.Shape.Shape}
use Rattle.semantics_schedules.specs.{Execution.Reaches, Schedules.state_after}
use Rattle.walk.specs.declared.path.{Frame.Frame, Node.Node, Path.Path}

-- the thread of the last step, if there is one, could go on, and it is not this one
abbrev pub preempts_last : Option ℕ → Mask → ℕ → Bool
preempts_last None enabled t = false
preempts_last (Some last) enabled t = has enabled last && not (nat_eq last t)

-- a step of this thread is a preempting switch, where these are enabled
abbrev pub is_preempting : Mask → Node → ℕ → Bool
is_preempting enabled n t = preempts_last n.last enabled t

-- the state that steps lead to from the start
abbrev pub state_at : Program → List ℕ → Snapshot
state_at p w = state_after p (start p) w

-- the steps lead to the node
abbrev pub ReachesNode : Program → List ℕ → Node → Type 0
ReachesNode p w n =
    Reaches p w (record { state = state_at p w; last = n.last; preemptions = n.used })

-- what is known of the node that steps lead to, where these are enabled
pub record IsNode (p : Program) (w : List ℕ) (on : Mask) (n : Node) : Type 0 where
  pub reaches : ReachesNode p w n
  pub enabled : HasEnabled on p (state_at p w)

-- a frame that is not there
abbrev pub no_frame : Frame
no_frame = record {
  node = record { todo = no_threads; asleep = no_threads; last = None; used = 0 };
  steps = 0;
  control = record {
    enabled = no_threads;
    unended = no_threads;
    stopped = no_threads;
    woken = no_threads;
    places = [];
    owners = [];
    counts = [];
    mutexes = [];
    semaphores = [];
    lengths = [];
  };
}

abbrev pub frame_at : List Frame → ℕ → Frame
frame_at fs k = get_or fs k no_frame

-- the words of frame k, where each frame has `size` of them
abbrev pub words_at : ℕ → List ℤ → ℕ → List ℤ
words_at size ws k = take size (drop (k * size) ws)

-- the frame and its words are a copy of the state of the node to which these steps lead
pub record IsCopy (p : Program) (w : List ℕ) (shape : Shape) (f : Frame) (ws : List ℤ)
    : Type 0 where
  pub reaches : ReachesNode p w f.node
  pub shows : IsShown p shape f.control ws (state_at p w)

-- and so all frames, on the way of these steps
pub record AreCopies (p : Program) (w : List ℕ) (shape : Shape) (size : ℕ) (fs : List Frame)
    (ws : List ℤ) : Type 0 where
  pub each : (k : ℕ) → k < length fs
      → IsCopy p (take (frame_at fs k).steps w) shape (frame_at fs k) (words_at size ws k)
  pub within : (k : ℕ) → k < length fs → (frame_at fs k).steps ≤ length w
  pub rising : (j k : ℕ) → j ≤ k → k < length fs → (frame_at fs j).steps ≤ (frame_at fs k).steps
  pub first : 0 < length fs → (frame_at fs 0).steps ≡ 0
  pub bottom : length fs ≡ 0 → w ≡ []
  pub room : length fs * size ≤ length ws

-- the frames in use
abbrev pub used_frames : Path → List Frame
used_frames t = take t.depth t.frames.items

-- the steps lead to the state and the node, and each frame is a copy of a state on the way
pub record IsPath (p : Program) (t : Path) : Type 0 where
  pub well_formed : IsWellFormed p
  pub reaches : ReachesNode p t.steps.items t.node
  pub shows : Shows p t.machine (state_at p t.steps.items)
  pub size : t.size ≡ length t.machine.values.items
  pub frames : AreCopies p t.steps.items t.machine.shape t.size (used_frames t)
      t.words.items
  pub room : t.depth ≤ length t.frames.items
  pub count : length (used_frames t) ≡ t.depth
