-- The views of what handles hold, and how one goes back.
use Rattle.std.specs.Prelude.{ℕ, ◌&&◌, Bool, Option, Some, None, is_some, if◌then◌else◌}
use Rattle.std.specs.Option.{option_map}
use Rattle.lend_block.specs.Loan.{LentBytes}
use Rattle.tbl_registry.specs.declared.rows.Handle.{Handle}
use Rattle.table_blocks.specs.Blocks.{Stored, with_content, after_abort}
use Rattle.table_blocks.specs.Contents.{Content, is_staged, version_at, content_at, view_back}

-- the view of what a handle holds, of a table with these contents
abbrev pub held_by : Content → Handle → Option LentBytes
held_by c h =
    option_map
    (λ version. record { loan = (version_at c version).loan; bytes = (version_at c version).bytes })
    h.held

-- how many views a handle has
abbrev pub views_of : Handle → ℕ
views_of h = if is_some h.held then 1 else 0

-- the blocks once the view of a version of the table of a key went back, if there was one
abbrev pub after_back : Stored → ℕ → Option ℕ → Stored
after_back s key None = s
after_back s key (Some version) = with_content s key (view_back (content_at s.tables key) version)

-- the contents of that table
abbrev pub with_back : Content → Option ℕ → Content
with_back c None = c
with_back c (Some version) = view_back c version

-- the blocks once a handle of the table of a key leaves: if it is the owner's, and something is
-- staged, that is dropped
abbrev pub after_owner : Bool → Stored → ℕ → ℕ → Stored
after_owner owner s key loan =
    if owner && is_staged (content_at s.tables key).next then after_abort s key loan else s
