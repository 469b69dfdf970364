-- What the notes of a socket's calls say: the connection, and how many bytes moved.
use Rattle.std.specs.Prelude.{ℕ, ◌-◌, List, length, take, drop}
use Rattle.http_server.specs.declared.connection.Connection.{Connection}
use Rattle.http_server.specs.Connection.{history}

-- the bytes that were read last by this connection
abbrev pub read_bytes : Connection × ℕ → List ℕ
read_bytes note = let all = (history note.0).received in drop (length all - note.1) all

-- the first bytes that this connection had to send
abbrev pub written_bytes : Connection × ℕ → List ℕ
written_bytes note = take note.1 (history note.0).pending
