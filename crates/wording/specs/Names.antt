-- The words of the step program (document 01, "Step program"), as bytes. Assumes nothing.
use Rattle.std.specs.Prelude.{ℕ, List, [], ◌∷◌, cond, bytes_eq, Option, Some, None, option_map}
use Rattle.wording.specs.declared.names.Act.{Act}
use Rattle.wording.specs.declared.names.Kind.{Kind}

-- start, update, read, batch, cut, crash
abbrev pub start_text : List ℕ
start_text = 115 ∷ 116 ∷ 97 ∷ 114 ∷ 116 ∷ []

abbrev pub update_text : List ℕ
update_text = 117 ∷ 112 ∷ 100 ∷ 97 ∷ 116 ∷ 101 ∷ []

abbrev pub read_text : List ℕ
read_text = 114 ∷ 101 ∷ 97 ∷ 100 ∷ []

abbrev pub batch_text : List ℕ
batch_text = 98 ∷ 97 ∷ 116 ∷ 99 ∷ 104 ∷ []

abbrev pub cut_text : List ℕ
cut_text = 99 ∷ 117 ∷ 116 ∷ []

abbrev pub crash_text : List ℕ
crash_text = 99 ∷ 114 ∷ 97 ∷ 115 ∷ 104 ∷ []

-- push, send, confirmed, ask, drop, receive, pull, accept, serverdrop
abbrev pub act_text : Act → List ℕ
act_text Act.Push = 112 ∷ 117 ∷ 115 ∷ 104 ∷ []
act_text Act.Send = 115 ∷ 101 ∷ 110 ∷ 100 ∷ []
act_text Act.Confirmed = 99 ∷ 111 ∷ 110 ∷ 102 ∷ 105 ∷ 114 ∷ 109 ∷ 101 ∷ 100 ∷ []
act_text Act.Ask = 97 ∷ 115 ∷ 107 ∷ []
act_text Act.Drop = 100 ∷ 114 ∷ 111 ∷ 112 ∷ []
act_text Act.Receive = 114 ∷ 101 ∷ 99 ∷ 101 ∷ 105 ∷ 118 ∷ 101 ∷ []
act_text Act.Pull = 112 ∷ 117 ∷ 108 ∷ 108 ∷ []
act_text Act.Accept = 97 ∷ 99 ∷ 99 ∷ 101 ∷ 112 ∷ 116 ∷ []
act_text Act.Serverdrop = 115 ∷ 101 ∷ 114 ∷ 118 ∷ 101 ∷ 114 ∷ 100 ∷ 114 ∷ 111 ∷ 112 ∷ []

-- "Updates: `blank`, `count,n`, `measure,` 16 hex digits, `add,n`."
abbrev pub blank_text : List ℕ
blank_text = 98 ∷ 108 ∷ 97 ∷ 110 ∷ 107 ∷ []

abbrev pub count_text : List ℕ
count_text = 99 ∷ 111 ∷ 117 ∷ 110 ∷ 116 ∷ []

abbrev pub measure_text : List ℕ
measure_text = 109 ∷ 101 ∷ 97 ∷ 115 ∷ 117 ∷ 114 ∷ 101 ∷ []

abbrev pub add_text : List ℕ
add_text = 97 ∷ 100 ∷ 100 ∷ []

-- done, yes, no, moved, refused
abbrev pub done_text : List ℕ
done_text = 100 ∷ 111 ∷ 110 ∷ 101 ∷ []

abbrev pub yes_text : List ℕ
yes_text = 121 ∷ 101 ∷ 115 ∷ []

abbrev pub no_text : List ℕ
no_text = 110 ∷ 111 ∷ []

abbrev pub moved_text : List ℕ
moved_text = 109 ∷ 111 ∷ 118 ∷ 101 ∷ 100 ∷ []

abbrev pub refused_text : List ℕ
refused_text = 114 ∷ 101 ∷ 102 ∷ 117 ∷ 115 ∷ 101 ∷ 100 ∷ []

-- the steps that name a device alone, by their names
unfoldable pub act_of : List ℕ → Option Act
act_of f =
    cond (bytes_eq f (act_text Act.Push)) (Some Act.Push) (
    cond (bytes_eq f (act_text Act.Send)) (Some Act.Send) (
    cond (bytes_eq f (act_text Act.Confirmed)) (Some Act.Confirmed) (
    cond (bytes_eq f (act_text Act.Ask)) (Some Act.Ask) (
    cond (bytes_eq f (act_text Act.Drop)) (Some Act.Drop) (
    cond (bytes_eq f (act_text Act.Receive)) (Some Act.Receive) (
    cond (bytes_eq f (act_text Act.Pull)) (Some Act.Pull) (
    cond (bytes_eq f (act_text Act.Accept)) (Some Act.Accept) (
    cond (bytes_eq f (act_text Act.Serverdrop)) (Some Act.Serverdrop) (
    None)))))))))

-- "First field is the step."
unfoldable pub kind_of : List ℕ → Option Kind
unfolding act_of
kind_of f =
    cond (bytes_eq f start_text) (Some Kind.Start) (
    cond (bytes_eq f update_text) (Some Kind.Update) (
    cond (bytes_eq f read_text) (Some Kind.Read) (
    cond (bytes_eq f batch_text) (Some Kind.Batch) (
    cond (bytes_eq f cut_text) (Some Kind.Cut) (
    cond (bytes_eq f crash_text) (Some Kind.Crash) (
    option_map Kind.Device (act_of f)))))))
