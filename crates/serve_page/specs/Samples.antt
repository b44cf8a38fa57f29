-- Metrics in the text form of Prometheus: a line that says what one is, a line with its kind, and its samples.
use Rattle.std.specs.Prelude.{ℕ, List, ◌++◌, codes}
use Rattle.std.specs.Fmt.{decimal}

-- what a metric is, and its kind
abbrev pub head_text : List ℕ → List ℕ → List ℕ → List ℕ
head_text name help kind =
    codes "# HELP drbdpair_" ++ (name ++ (codes " " ++ (help ++ (codes "\n# TYPE drbdpair_" ++ (name ++ (codes " " ++ (kind ++ codes "\n")))))))

-- a sample without a label: the name, and its number
abbrev pub sample_text : List ℕ → ℕ → List ℕ
sample_text name n = codes "drbdpair_" ++ (name ++ (codes " " ++ (decimal n ++ codes "\n")))

-- a sample of one node
abbrev pub node_sample_text : List ℕ → List ℕ → ℕ → List ℕ
node_sample_text name node n = codes "drbdpair_" ++ (name ++ (codes "{node=\"" ++ (node ++ (codes "\"} " ++ (decimal n ++ codes "\n")))))

-- a number that goes up and down
abbrev pub gauge_text : List ℕ → List ℕ → ℕ → List ℕ
gauge_text name help n = head_text name help (codes "gauge") ++ sample_text name n

-- a number that goes up alone
abbrev pub counter_text : List ℕ → List ℕ → ℕ → List ℕ
counter_text name help n = head_text name help (codes "counter") ++ sample_text name n

-- a number of each node
abbrev pub node_gauge_text : List ℕ → List ℕ → ℕ → ℕ → List ℕ
node_gauge_text name help local remote =
    head_text name help (codes "gauge") ++ (node_sample_text name (codes "local") local ++ node_sample_text name (codes "remote") remote)

-- a number of each node that goes up alone
abbrev pub node_counter_text : List ℕ → List ℕ → ℕ → ℕ → List ℕ
node_counter_text name help local remote =
    head_text name help (codes "counter") ++ (node_sample_text name (codes "local") local ++ node_sample_text name (codes "remote") remote)

-- a text, as the label of a sample that is 1
abbrev pub info_text : List ℕ → List ℕ → List ℕ → List ℕ → List ℕ
info_text name help label text =
    head_text name help (codes "gauge") ++ (codes "drbdpair_" ++ (name ++ (codes "{" ++ (label ++ (codes "=\"" ++ (text ++ codes "\"} 1\n"))))))
