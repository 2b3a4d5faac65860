-- The one spelling of a call line that is printed: its words, with a space between each two.
use Rattle.std.specs.Prelude.{ℕ, Bool, true, false, List, [], ◌∷◌, ◌++◌, map, fold, codes, decimal}
use Rattle.std.specs.List.{flat_map}
use Rattle.fsw_base.specs.declared.config.Scope.{Scope}
use Rattle.fsw_base.specs.declared.config.Scope.TheVariants as scopes
use Rattle.fsw_base.specs.Events.{kind_number}
use Rattle.text_page.specs.Texts.{hex_id, hex_bytes, name_text}
use Rattle.script_words.specs.Counts.{Word}
use Rattle.script_words.specs.declared.content.Content.{Content}
use Rattle.script_words.specs.declared.content.Content.TheVariants.{Hex, Fill}
use Rattle.tbl_rules.specs.declared.rules.Rule.{Rule}
use Rattle.script_lines.specs.declared.line.Line.{Line}
use Rattle.script_lines.specs.declared.line.Line.TheVariants.{Create, Delete, SetOpts, GetOpts, Find, PipeName, Subscribe, Unsubscribe, Send, SendRaw, Receive, Pend, Allocate, TransmitBuffer, Release, PoolCreate, PoolGet, PoolPut, PoolFigures, Register, SendEvent, ResetFilter, LogMode, ClearLog, Housekeeping, Figures, TableRegister, TableShare, TableUnregister, Stage, Validate, Update, Abort, Load, GetAddress, ReleaseAddress, Status, Form, Put, ShowPipe, ShowTable}

-- words, with one space between each two
abbrev pub spaced : List Word → List ℕ
spaced [] = []
spaced (word ∷ words) = fold (λ text next. text ++ 32 ∷ next) word words

-- words, with a space before each
abbrev pub behind : List Word → List ℕ
behind words = flat_map (λ word. 32 ∷ word) words

-- the registers: pipes, buffers, pools, grants and table handles
abbrev pub pipe_word : ℕ → Word
pipe_word number = codes "p" ++ decimal number

abbrev pub buffer_word : ℕ → Word
buffer_word number = codes "b" ++ decimal number

abbrev pub pool_word : ℕ → Word
pool_word number = codes "q" ++ decimal number

abbrev pub grant_word : ℕ → Word
grant_word number = codes "m" ++ decimal number

abbrev pub table_word : ℕ → Word
table_word number = codes "t" ++ decimal number

abbrev pub scope_text : Scope → Word
scope_text scopes.Global = codes "global"
scope_text scopes.Local = codes "local"

-- whether a send gives its message the next sequence count
abbrev pub mode_text : Bool → Word
mode_text true = codes "inc"
mode_text false = codes "keep"

-- the bytes of a load: their digits, or how many there are and the first one
abbrev pub content_text : Content → Word
content_text (Hex bytes) = hex_bytes bytes
content_text (Fill len byte) = codes "fill:" ++ decimal len ++ codes ":" ++ decimal byte

-- an event id and its mask
abbrev pub filter_text : ℕ × ℕ → Word
filter_text pair = decimal pair.0 ++ codes ":" ++ hex_id pair.1

-- the place of a byte, and the least and the greatest value that it may have
abbrev pub rule_text : Rule → Word
rule_text rule =
    decimal rule.offset ++ codes ":" ++ decimal rule.low ++ codes ":" ++ decimal rule.high

-- the text of an event, if there is one
abbrev pub text_words : List ℕ → List Word
text_words [] = []
text_words (byte ∷ bytes) = (byte ∷ bytes) ∷ []

-- The words of a call line. What a script may leave out is spelled: limit, scope and mode. The text
-- of an event counts as one word.
unfoldable pub line_words : Line → List Word
line_words (Create pipe depth name) =
    codes "create" ∷ pipe_word pipe ∷ decimal depth ∷ name_text name ∷ []
line_words (Delete pipe) = codes "delete" ∷ pipe_word pipe ∷ []
line_words (SetOpts pipe bits) = codes "opts" ∷ pipe_word pipe ∷ decimal bits ∷ []
line_words (GetOpts pipe) = codes "getopts" ∷ pipe_word pipe ∷ []
line_words (Find pipe name) = codes "find" ∷ pipe_word pipe ∷ name_text name ∷ []
line_words (PipeName pipe) = codes "pname" ∷ pipe_word pipe ∷ []
line_words (Subscribe id pipe limit scope) =
    codes "sub" ∷ hex_id id ∷ pipe_word pipe ∷ decimal limit ∷ scope_text scope ∷ []
line_words (Unsubscribe id pipe) = codes "unsub" ∷ hex_id id ∷ pipe_word pipe ∷ []
line_words (Send id size fill inc) =
    codes "send" ∷ hex_id id ∷ decimal size ∷ decimal fill ∷ mode_text inc ∷ []
line_words (SendRaw bytes inc) = codes "sendraw" ∷ hex_bytes bytes ∷ mode_text inc ∷ []
line_words (Receive pipe) = codes "recv" ∷ pipe_word pipe ∷ []
line_words (Pend pipe) = codes "pend" ∷ pipe_word pipe ∷ []
line_words (Allocate buf size) = codes "alloc" ∷ buffer_word buf ∷ decimal size ∷ []
line_words (TransmitBuffer buf inc) = codes "xmit" ∷ buffer_word buf ∷ mode_text inc ∷ []
line_words (Release buf) = codes "release" ∷ buffer_word buf ∷ []
line_words (PoolCreate pool bytes) = codes "pool" ∷ pool_word pool ∷ decimal bytes ∷ []
line_words (PoolGet grant pool size) =
    codes "pget" ∷ grant_word grant ∷ pool_word pool ∷ decimal size ∷ []
line_words (PoolPut pool grant) = codes "pput" ∷ pool_word pool ∷ grant_word grant ∷ []
line_words (PoolFigures pool) = codes "pstats" ∷ pool_word pool ∷ []
line_words (Register filters) = codes "evreg" ∷ map filter_text filters
line_words (SendEvent id kind text) =
    codes "event" ∷ decimal id ∷ decimal (kind_number kind) ∷ text_words text
line_words (ResetFilter id) = codes "evreset" ∷ decimal id ∷ []
line_words (LogMode mode) = codes "logmode" ∷ decimal mode ∷ []
line_words ClearLog = codes "logclear" ∷ []
line_words Housekeeping = codes "hk" ∷ []
line_words Figures = codes "stats" ∷ []
line_words (TableRegister handle name size option rules) =
    codes "treg" ∷ table_word handle ∷ name_text name ∷ decimal size ∷ decimal option ∷
    map rule_text rules
line_words (TableShare handle name) = codes "tshare" ∷ table_word handle ∷ name_text name ∷ []
line_words (TableUnregister handle) = codes "tunreg" ∷ table_word handle ∷ []
line_words (Stage handle offset content) =
    codes "tstage" ∷ table_word handle ∷ decimal offset ∷ content_text content ∷ []
line_words (Validate handle) = codes "tval" ∷ table_word handle ∷ []
line_words (Update handle) = codes "tupd" ∷ table_word handle ∷ []
line_words (Abort handle) = codes "tabort" ∷ table_word handle ∷ []
line_words (Load handle offset content) =
    codes "tload" ∷ table_word handle ∷ decimal offset ∷ content_text content ∷ []
line_words (GetAddress handle) = codes "tget" ∷ table_word handle ∷ []
line_words (ReleaseAddress handle) = codes "trel" ∷ table_word handle ∷ []
line_words (Status handle) = codes "tstat" ∷ table_word handle ∷ []
line_words (Form buf id fill) = codes "form" ∷ buffer_word buf ∷ hex_id id ∷ decimal fill ∷ []
line_words (Put buf offset bytes) =
    codes "put" ∷ buffer_word buf ∷ decimal offset ∷ hex_bytes bytes ∷ []
line_words (ShowPipe pipe) = codes "show" ∷ pipe_word pipe ∷ []
line_words (ShowTable handle) = codes "show" ∷ table_word handle ∷ []

-- The spelling of a call line.
abbrev pub line_text : Line → List ℕ
line_text line = spaced (line_words line)
